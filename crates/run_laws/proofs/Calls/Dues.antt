-- What is due, round by round and one by one.
use Rattle.std.proofs.Common.{◌≡◌, ℕ, ◌+◌, List, [], ◌∷◌, ◌++◌, map, refl, sym, ap, ◌∙◌}
use Rattle.std.specs.List.{enumerate_from, flat_map, range_with_len}
use Rattle.std.proofs.lemmas.Grind.{flat_map-append}
use Rattle.std.proofs.lemmas.List.Folds.{flat_map-map}
use Rattle.outcome_spec.specs.Forms.{Due, commands_of, dues_in, dues_to}
use Rattle.workload_spec.specs.declared.reply.Who.TheVariants.{Session, Worker}
use Rattle.workload_spec.specs.declared.script.Line.{Line}
use Rattle.workload_spec.specs.declared.script.Script.{Script}
use Rattle.run_spec.specs.Calls.{Call}
use Rattle.run_spec.specs.Ran.{Agenda, RoundRun, Share, agenda_of, agendas_in, turns_of}
use Rattle.run_laws.specs.Calls.Dues.{CallsAnswerDues, dues_answered}

-- Two maps in turn are one map by both.
map_of_map : {X Y Z : Type 0} (f : Y → Z) (g : X → Y) (xs : List X) → map f (map g xs) ≡ map (λ x. f (g x)) xs
map_of_map f g [] = refl
map_of_map f g (x ∷ xs) = ap (λ zs. f (g x) ∷ zs) (map_of_map f g xs)

-- What two maps that agree make of a list is the same when joined.
same_flat : {X Y : Type 0} (f g : X → List Y) → ((x : X) → f x ≡ g x) → (xs : List X) → flat_map f xs ≡ flat_map g xs
same_flat f g same [] = refl
same_flat f g same (x ∷ xs) = ap (λ ys. ys ++ flat_map f xs) (same x) ∙ ap (λ ys. g x ++ ys) (same_flat f g same xs)

-- what is due by an agenda
abbrev due_by : ℕ → Agenda → List Due
due_by number agenda = dues_to number agenda.who agenda.commands

-- What is due in a round is what its agendas ask, one behind the other.
dues_are_asked : (script : Script) (number : ℕ) (lines : List Line)
    → dues_in script number lines ≡ flat_map (due_by number) (agendas_in script lines)
dues_are_asked script number lines =
    let session : ℕ → Agenda = λ n. record { who = Session n; commands = commands_of n lines } in
    let worker : ℕ → Agenda = λ n. record { who = Worker n; commands = turns_of script } in
    let sessions : List ℕ = range_with_len 1 script.sessions in
    let workers : List ℕ = range_with_len 1 script.workers in
    sym (flat_map-append (due_by number) (map session sessions) (map worker workers)
    ∙ ap (λ dues. dues ++ flat_map (due_by number) (map worker workers)) (flat_map-map (due_by number) session sessions)
    ∙ ap (λ dues. flat_map (λ n. due_by number (session n)) sessions ++ dues) (flat_map-map (due_by number) worker workers))

-- What is due by a share's agenda is what its calls answer.
share_answers : (number : ℕ) (share : Share)
    → due_by number (agenda_of share) ≡ map (λ call. record { round = number; who = share.who; command = call.command }) share.calls
share_answers number share = map_of_map
    (λ asked. record { round = number; who = share.who; command = asked })
    (λ (call : Call). call.command)
    share.calls

-- What is due in a round is what its calls answer, where its shares have its agendas.
round_answers : (script : Script) (number : ℕ) (lines : List Line) (round : RoundRun)
    → map agenda_of round.shares ≡ agendas_in script lines → dues_in script number lines ≡ dues_answered number round
round_answers script number lines round asked =
    dues_are_asked script number lines
    ∙ ap (flat_map (due_by number)) (sym asked)
    ∙ flat_map-map (due_by number) agenda_of round.shares
    ∙ same_flat
    (λ share. due_by number (agenda_of share))
    (λ share. map (λ call. record { round = number; who = share.who; command = call.command }) share.calls)
    (share_answers number)
    round.shares

-- Lists that are one begin with the same element.
heads : {X : Type 0} (a b : X) (xs ys : List X) → a ∷ xs ≡ b ∷ ys → a ≡ b
heads a b xs ys e = cc

-- Lists that are one go on alike behind the first.
tails : {X : Type 0} (a b : X) (xs ys : List X) → a ∷ xs ≡ b ∷ ys → xs ≡ ys
tails a b xs ys e = cc

-- What is due in rounds is what their calls answer, round by round.
rounds_answer : (script : Script) (number : ℕ) (asked : List (List Line)) (rounds : List RoundRun)
    → map (λ round. map agenda_of round.shares) rounds ≡ map (agendas_in script) asked
    → flat_map (λ entry. dues_in script entry.0 entry.1) (enumerate_from number asked)
    ≡ flat_map (λ entry. dues_answered entry.0 entry.1) (enumerate_from number rounds)
rounds_answer script number [] [] e = refl
rounds_answer script number [] (round ∷ rounds) e = absurd (let never : ⊥ = cc e in never)
rounds_answer script number (lines ∷ asked) [] e = absurd (let never : ⊥ = cc e in never)
rounds_answer script number (lines ∷ asked) (round ∷ rounds) e =
    ap
    (λ dues. dues ++ flat_map (λ entry. dues_in script entry.0 entry.1) (enumerate_from (number + 1) asked))
    (round_answers script number lines round (heads
    (map agenda_of round.shares)
    (agendas_in script lines)
    (map (λ (round : RoundRun). map agenda_of round.shares) rounds)
    (map (agendas_in script) asked)
    e))
    ∙ ap
    (λ dues. dues_answered number round ++ dues)
    (rounds_answer script (number + 1) asked rounds (tails
    (map agenda_of round.shares)
    (agendas_in script lines)
    (map (λ (round : RoundRun). map agenda_of round.shares) rounds)
    (map (agendas_in script) asked)
    e))

-- the calls of a run answer what is due, in order
pub calls_answer : CallsAnswerDues
calls_answer script rounds asked = rounds_answer script 1 script.rounds rounds asked
