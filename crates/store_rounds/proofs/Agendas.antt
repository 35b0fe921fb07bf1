-- The agendas of a round, line by line.
use Rattle.std.proofs.Common.{◌≡◌, ℕ, ◌+◌, ◌-◌, ◌<◌, ◌≤◌, nat_lt, nat_le, Bool, true, false, cond, ◌==◌, List, [], ◌∷◌, ◌++◌, length, get_or, slice_set, None, Some, refl, sym, ap, ◌∙◌, append-nil, arith}
use Rattle.std.specs.List.{cons_option, list_all}
use Rattle.std.proofs.lemmas.Bool.{and_parts}
use Rattle.std.proofs.lemmas.Bool.Decides.{nat_tests}
use Rattle.std.proofs.lemmas.Grind.{elements}
use Rattle.std.proofs.lemmas.List.{get_or_append_left, get_or_push, length_push}
use Rattle.std.proofs.lemmas.List.Elements.{filter_map-append}
use Rattle.outcome_spec.specs.Forms.{commands_of}
use Rattle.workload_spec.specs.Valid.{is_within}
use Rattle.workload_spec.specs.declared.command.Command.{Command}
use Rattle.workload_spec.specs.declared.script.Line.{Line}
use Rattle.store_rounds.specs.Agendas.{AreAgendas}
use Rattle.store_rounds.specs.declared.agenda.Agenda.{Agenda}

-- before any session was given one, there are no agendas
pub none_yet : AreAgendas 0 [] []
none_yet = record { size = refl; each = λ k d within. absurd (omega (arith, within)) }

-- one session more with nothing to do yet
pub one_more : (n : ℕ) (agendas : List Agenda) (new : Agenda) → AreAgendas n [] agendas → new.commands.items ≡ [] → AreAgendas (n + 1) [] (agendas ++ new ∷ [])
one_more n agendas new are none = record {
  size = length_push agendas new ∙ ap (λ k. k + 1) are.size;
  each = λ k d within. go k d within (nat_lt k n) refl;
}
  where
    go : (k : ℕ) (d : Agenda) → k < n + 1 → (b : Bool) → nat_lt k n ≡ b → (get_or (agendas ++ new ∷ []) k d).commands.items ≡ []
    go k d within true e =
        let low : k < n = grind (arith, nat_tests, e) in
        ap (λ (a : Agenda). a.commands.items) (get_or_append_left agendas (new ∷ []) d k (omega (arith, low, are.size))) ∙ are.each k d low
    go k d within false e =
        let same : length agendas ≡ k = grind (arith, nat_tests, e, within, are.size) in
        ap (λ (a : Agenda). a.commands.items) (get_or_push agendas new d k same) ∙ none

-- One more line adds its command to a session's where it is the session's line.
commands_push : (session : ℕ) (lines : List Line) (line : Line)
    → commands_of session (lines ++ line ∷ []) ≡ commands_of session lines ++ cons_option (cond (line.session == session) (Some line.command) None) []
commands_push session lines line = filter_map-append (λ (line : Line). cond (line.session == session) (Some line.command) None) lines (line ∷ [])

-- An agenda that was put at a place is read there.
set_own : (agendas : List Agenda) (new : Agenda) (at k : ℕ) (d : Agenda) → k ≡ at → k < length agendas → get_or (slice_set agendas at new) k d ≡ new
set_own agendas new at k d same within = grind (arith, elements)

-- Putting an agenda at one place leaves those at all others.
set_other : (agendas : List Agenda) (new : Agenda) (at k : ℕ) (d : Agenda) → (k ≡ at → ⊥) → get_or (slice_set agendas at new) k d ≡ get_or agendas k d
set_other agendas new at k d other = grind (arith, elements)

-- Putting an agenda at a place keeps how many there are.
set_length : (agendas : List Agenda) (new : Agenda) (at : ℕ) → length (slice_set agendas at new) ≡ length agendas
set_length agendas new at = grind (arith, elements)

-- a line's command is put behind the agenda of its session
pub line_more : (n : ℕ) (lines : List Line) (line : Line) (agendas : List Agenda) (new x : Agenda)
    → AreAgendas n lines agendas → 1 ≤ line.session → line.session ≤ n
    → new.commands.items ≡ (get_or agendas (line.session - 1) x).commands.items ++ line.command ∷ []
    → AreAgendas n (lines ++ line ∷ []) (slice_set agendas (line.session - 1) new)
line_more n lines line agendas new x are low high grown = record {
  size = set_length agendas new (line.session - 1) ∙ are.size;
  each = λ k d within. go k d within (line.session == k + 1) refl;
}
  where
    go : (k : ℕ) (d : Agenda) → k < n → (b : Bool) → (line.session == k + 1) ≡ b
        → (get_or (slice_set agendas (line.session - 1) new) k d).commands.items ≡ commands_of (k + 1) (lines ++ line ∷ [])
    go k d within true e =
        let same : line.session ≡ k + 1 = grind (arith, nat_tests, e) in
        let here : k ≡ line.session - 1 = omega (arith, same) in
        ap (λ (a : Agenda). a.commands.items) (set_own agendas new (line.session - 1) k d here (omega (arith, within, are.size)))
        ∙ grown
        ∙ ap (λ (cs : List Command). cs ++ line.command ∷ [])
        (ap (λ (n : ℕ). (get_or agendas n x).commands.items) (sym here) ∙ are.each k x within)
        ∙ ap (λ (b : Bool). commands_of (k + 1) lines ++ cons_option (cond b (Some line.command) None) []) (sym e)
        ∙ sym (commands_push (k + 1) lines line)
    go k d within false e =
        let other : k ≡ line.session - 1 → ⊥ = λ (same : k ≡ line.session - 1). absurd (grind (arith, nat_tests, e, same, low)) in
        ap (λ (a : Agenda). a.commands.items) (set_other agendas new (line.session - 1) k d other)
        ∙ are.each k d within
        ∙ sym (append-nil (commands_of (k + 1) lines))
        ∙ ap (λ (b : Bool). commands_of (k + 1) lines ++ cons_option (cond b (Some line.command) None) []) (sym e)
        ∙ sym (commands_push (k + 1) lines line)

-- a line of the round is of one of the sessions
pub line_within : (sessions : ℕ) (front rest all : List Line) (line : Line) → front ++ line ∷ rest ≡ all
    → list_all (λ (line : Line). is_within 1 sessions line.session) all ≡ true → (1 ≤ line.session) × (line.session ≤ sessions)
line_within sessions front rest all line split each = at front (ap (list_all (λ (line : Line). is_within 1 sessions line.session)) split ∙ each)
  where
    at : (front : List Line) → list_all (λ (line : Line). is_within 1 sessions line.session) (front ++ line ∷ rest) ≡ true → (1 ≤ line.session) × (line.session ≤ sessions)
    at [] all =
        let here = and_parts (nat_le 1 line.session) (nat_le line.session sessions)
        (and_parts (is_within 1 sessions line.session) (list_all (λ (line : Line). is_within 1 sessions line.session) rest) all).0 in
        (let low = here.0 in grind (arith, nat_tests, low), let high = here.1 in grind (arith, nat_tests, high))
    at (first ∷ front) all =
        at front (and_parts (is_within 1 sessions first.session) (list_all (λ (line : Line). is_within 1 sessions line.session) (front ++ line ∷ rest)) all).1
