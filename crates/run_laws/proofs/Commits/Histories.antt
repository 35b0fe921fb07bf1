-- The machine's history along a log is that of the log's commits.
use Rattle.std.proofs.Common.{◌≡◌, ◌≢◌, ◌⊎◌, inl, inr, ℕ, suc, ◌+◌, Bool, true, false, cond, ◌==◌, List, [], ◌∷◌, ◌++◌, map, length, refl, sym, ap, ◌∙◌, subst, arith, append_assoc, append-nil, length-append}
use Rattle.std.specs.List.{range_with_len}
use Rattle.std.proofs.lemmas.Bool.Decides.{nat_tests}
use Rattle.std.proofs.lemmas.List.{map-append}
use Rattle.std.proofs.lemmas.List.Elements.{filter-append}
use Rattle.std.proofs.lemmas.List.Sums.{fold-append}
use Rattle.core_laws.proofs.Logs.Logs.{replies_as_the_machine}
use Rattle.core_laws.specs.Logs.Laws.{IsAnsweredFrom}
use Rattle.event_spec.specs.Parts.{Parts, Shape}
use Rattle.event_spec.specs.Replay.{after, opening}
use Rattle.isolation_spec.specs.Contents.{History}
use Rattle.isolation_spec.specs.Machine.{IsolationMachine, opening_from, transaction_of}
use Rattle.timeline_laws.proofs.Machine.{Sane, sane-opening}
use Rattle.timeline_laws.proofs.Ranges.{range-append}
use Rattle.run_spec.specs.declared.commit.Commit.{Commit}
use Rattle.run_spec.specs.Commits.{SessionWrites, commit_by, commits_along, history_behind, write_sets, writes_behind, writes_of}
use Rattle.run_spec.specs.Occurrences.{Logged, Occurrence, occurrence_of, occurrences_from, under}
use Rattle.run_laws.proofs.Calls.Along.{and_first, and_second, named}
use Rattle.run_laws.proofs.Commits.Steps.{Follows, OwnIs, event_follows}
use Rattle.run_laws.specs.Calls.Along.{are_named}
use Rattle.run_laws.specs.Calls.Asking.{is_of}
use Rattle.run_laws.specs.Commits.Laws.{HistoriesAreTheMachines, LeadsTo, MachinesLead}

-- ---- lists of commits

-- the commits along two parts of a log
pub along_append : (front xs ys : List Occurrence) → commits_along front (xs ++ ys) ≡ commits_along front xs ++ commits_along (front ++ xs) ys
along_append front [] ys = ap (λ (before : List Occurrence). commits_along before ys) (sym (append-nil front))
along_append front (x ∷ xs) ys =
    ap (λ (cs : List Commit). commit_by (writes_of (under x.session front)).own x.event x.reply ++ cs)
    (along_append (front ++ x ∷ []) xs ys
    ∙ ap (λ (before : List Occurrence). commits_along (front ++ x ∷ []) xs ++ commits_along before ys) (append_assoc front (x ∷ []) xs))
    ∙ sym (append_assoc (commit_by (writes_of (under x.session front)).own x.event x.reply) (commits_along (front ++ x ∷ []) xs) (commits_along (front ++ x ∷ xs) ys))

-- A session's event more is behind what the session wrote.
pub writes_more : (q : ℕ) (front : List Occurrence) (last : Occurrence) → last.session ≡ q
    → writes_of (under q (front ++ last ∷ [])) ≡ writes_behind (writes_of (under q front)) last
writes_more q front last same =
    ap writes_of (filter-append (λ (o : Occurrence). o.session == q) front (last ∷ [])
    ∙ ap (λ (b : Bool). under q front ++ cond b (last ∷ []) []) here)
    ∙ fold-append writes_behind (record { own = []; commits = [] }) (under q front) (last ∷ [])
  where
    here : (last.session == q) ≡ true
    here = grind (arith, nat_tests, same)

-- An event more leaves what others wrote.
pub writes_apart : (q : ℕ) (front : List Occurrence) (last : Occurrence) → last.session ≢ q
    → writes_of (under q (front ++ last ∷ [])) ≡ writes_of (under q front)
writes_apart q front last apart =
    ap writes_of (filter-append (λ (o : Occurrence). o.session == q) front (last ∷ [])
    ∙ ap (λ (b : Bool). under q front ++ cond b (last ∷ []) []) (go (last.session == q) refl)
    ∙ append-nil (under q front))
  where
    go : (b : Bool) → (last.session == q) ≡ b → b ≡ false
    go true e = absurd (apart (grind (arith, nat_tests)))
    go false e = refl

-- two numbers are the same or not
pub same_or_not : (a b : ℕ) → (a ≡ b) ⊎ (a ≢ b)
same_or_not a b = go (a == b) refl
  where
    go : (t : Bool) → (a == b) ≡ t → (a ≡ b) ⊎ (a ≢ b)
    go true e = inl (grind (arith, nat_tests))
    go false e = inr (λ s. absurd (grind (arith, nat_tests)))

-- ---- along a log

-- The number of a commit.
abbrev number_of : Commit → ℕ
number_of c = c.number

-- What holds of the machine behind these events, which began with these commits.
pub record Agrees (first : History) (front : List Occurrence) (m : IsolationMachine) : Type 0 where
  pub sane : Sane m
  pub own : (q : ℕ) → OwnIs (writes_of (under q front)).own (transaction_of q m)
  pub history : m.history ≡ history_behind first front
  pub numbers : map number_of (commits_along [] front) ≡ range_with_len (length first + 1) (length (commits_along [] front))

-- Before the first event it holds.
pub agrees_first : (first : History) → Agrees first [] (opening_from first)
agrees_first first = record { sane = sane-opening first; own = λ q. refl; history = sym (append-nil first); numbers = refl }

-- the write sets of a list of commits are as many
pub length_sets : (cs : List Commit) → length (write_sets cs) ≡ length cs
length_sets [] = refl
length_sets (c ∷ cs) = ap (λ (n : ℕ). suc n) (length_sets cs)

module _ (first : History) (front : List Occurrence) (m next : IsolationMachine) (agrees : Agrees first front m) (o : Occurrence)
    (follows : Follows m next agrees.sane o.session (writes_of (under o.session front)).own o.event o.reply) where
  -- the commit that the event makes, if it makes one
  abbrev made : List Commit
  made = commit_by (writes_of (under o.session front)).own o.event o.reply

  -- The commits behind it.
  along_is : commits_along [] (front ++ o ∷ []) ≡ commits_along [] front ++ made
  along_is = along_append [] front (o ∷ []) ∙ ap (λ (cs : List Commit). commits_along [] front ++ cs) (append-nil made)

  -- The history behind it.
  history_is : next.history ≡ history_behind first (front ++ o ∷ [])
  history_is =
      follows.history
      ∙ ap (λ (h : History). h ++ write_sets made) agrees.history
      ∙ append_assoc first (write_sets (commits_along [] front)) (write_sets made)
      ∙ ap (λ (sets : History). first ++ sets) (sym (map-append (λ (c : Commit). c.writes) (commits_along [] front) made))
      ∙ ap (λ (cs : List Commit). first ++ write_sets cs) (sym along_is)

  -- So many commits are in front.
  count_is : length m.history + 1 ≡ length first + 1 + length (commits_along [] front)
  count_is =
      let long = ap length agrees.history ∙ length-append first (write_sets (commits_along [] front)) in
      let sets = length_sets (commits_along [] front) in
      omega (arith, long, sets)

  -- Their numbers go on.
  numbers_are : map number_of (commits_along [] (front ++ o ∷ [])) ≡ range_with_len (length first + 1) (length (commits_along [] (front ++ o ∷ [])))
  numbers_are =
      ap (map number_of) along_is
      ∙ map-append number_of (commits_along [] front) made
      ∙ ap (λ (ns : List ℕ). ns ++ map number_of made) agrees.numbers
      ∙ ap (λ (ns : List ℕ). range_with_len (length first + 1) (length (commits_along [] front)) ++ ns) follows.numbers
      ∙ ap (λ (n : ℕ). range_with_len (length first + 1) (length (commits_along [] front)) ++ range_with_len n (length made)) count_is
      ∙ sym (range-append (length first + 1) (length (commits_along [] front)) (length made))
      ∙ ap (range_with_len (length first + 1)) (sym (length-append (commits_along [] front) made) ∙ ap length (sym along_is))

  -- What each session wrote.
  own_is : (r : ℕ) → (o.session ≡ r) ⊎ (o.session ≢ r) → OwnIs (writes_of (under r (front ++ o ∷ []))).own (transaction_of r next)
  own_is r (inl same) =
      subst (λ (s : ℕ). OwnIs (writes_of (under s (front ++ o ∷ []))).own (transaction_of s next)) same
      (subst (λ (w : SessionWrites). OwnIs w.own (transaction_of o.session next)) (sym (writes_more o.session front o refl)) follows.own_is)
  own_is r (inr apart) =
      subst (λ (w : SessionWrites). OwnIs w.own (transaction_of r next)) (sym (writes_apart r front o apart))
      (subst (OwnIs (writes_of (under r front)).own) (sym (follows.others r (λ e. apart (sym e)))) (agrees.own r))

  pub agrees_next : Agrees first (front ++ o ∷ []) next
  agrees_next = record { sane = follows.sane_next; own = λ r. own_is r (same_or_not o.session r); history = history_is; numbers = numbers_are }

-- It holds behind every log that the machine goes with.
pub agrees_along : (first : History) (shape : Shape) (parts : Parts) (front : List Occurrence) (m : IsolationMachine) (log : List Logged) (last : IsolationMachine)
    → Agrees first front m → are_named log ≡ true → LeadsTo shape parts m log last → Agrees first (front ++ occurrences_from shape parts log) last
agrees_along first shape parts front m [] last agrees are leads =
    subst (λ (es : List Occurrence). Agrees first es last) (sym (append-nil front)) (subst (Agrees first front) (sym leads) agrees)
agrees_along first shape parts front m (entry ∷ log) last agrees are leads =
    let o = occurrence_of shape parts entry in
    let follows = event_follows shape parts m leads.0 agrees.sane entry.session (writes_of (under entry.session front)).own (agrees.own entry.session) entry.made.event entry.made.refused
    (named entry.session entry.made.event (and_first (is_of entry.session entry.made.event) (are_named log) are)) leads.1 in
    subst (λ (es : List Occurrence). Agrees first es last) (append_assoc front (o ∷ []) (occurrences_from shape (after shape parts entry.made) log))
    (agrees_along first shape (after shape parts entry.made) (front ++ o ∷ []) leads.0 log last
    (agrees_next first front m leads.0 agrees o follows)
    (and_second (is_of entry.session entry.made.event) (are_named log) are) leads.2)

-- The machine goes with a log that it answers.
leads_from : (shape : Shape) (parts : Parts) (m : IsolationMachine) (log : List Logged) → IsAnsweredFrom shape parts m (map (λ (entry : Logged). entry.made) log)
    → (last : IsolationMachine) × LeadsTo shape parts m log last
leads_from shape parts m [] answered = (m, refl)
leads_from shape parts m (entry ∷ log) answered =
    let rest = leads_from shape (after shape parts entry.made) answered.0 log answered.2 in
    (rest.0, (answered.0, answered.1, rest.1))

-- The machine goes with every lawful log.
pub machines_lead : MachinesLead
machines_lead shape log is_shape lawful =
    leads_from shape (opening shape) (opening_from shape.first) log (replies_as_the_machine shape (map (λ (entry : Logged). entry.made) log) is_shape lawful)

-- Its history is that of the log's commits.
pub histories_are : HistoriesAreTheMachines
histories_are shape log last are leads =
    let agrees = agrees_along shape.first shape (opening shape) [] (opening_from shape.first) log last (agrees_first shape.first) are leads in
    record { history = agrees.history; numbers = agrees.numbers }
