-- The machine along a store's log.
use Rattle.std.proofs.Common.{◌≡◌, ◌≢◌, ℕ, ◌==◌, Bool, true, false, cond, List, [], ◌∷◌, ◌++◌, None, Some, fold, refl, sym, ap, subst, ◌∙◌, append-nil, arith}
use Rattle.std.proofs.lemmas.Bool.Decides.{nat_tests}
use Rattle.std.proofs.lemmas.List.{append_cancel_left}
use Rattle.std.proofs.lemmas.List.Sums.{fold-append}
use Rattle.core_laws.proofs.Logs.Logs.{made_keeps, made_step}
use Rattle.core_laws.proofs.Logs.Opening.{opening_follows, sound}
use Rattle.core_laws.specs.Events.Laws.{IsStep, command_in}
use Rattle.core_laws.specs.Events.Named.{FollowsMachine}
use Rattle.event_spec.specs.Lawful.{reads_handed, session_of}
use Rattle.event_spec.specs.Parts.{Parts, Shape}
use Rattle.event_spec.specs.Replay.{IsLawfulFrom, IsLawfulLog, after, opening, reply_after}
use Rattle.event_spec.specs.Sound.{IsShape, Sound}
use Rattle.isolation_spec.specs.Machine.{IsolationMachine}
use Rattle.isolation_spec.specs.Machine as machine
use Rattle.run_spec.specs.Handed.{GoesOn, own_in}
use Rattle.run_spec.specs.Occurrences.{Logged, Occurrence, occurrence_of, occurrences_from, occurrences_in, under}
use Rattle.store_laws.specs.Logs.{made_in}
use Rattle.store_laws.specs.Machines.{CommitsGoOn, HasMore, LogsFollowTheMachine, commits_in, machine_after, moved_on}
use Rattle.store_laws.specs.Own.{StandsUnder, parts_after}
use Rattle.store_laws.proofs.Entries.{left_by, occurrences_append, own_on}
use Rattle.store_laws.proofs.Stepping.{Leaves, commits_stay, left_alone, left_on, more_again, moved_is, other_leaves, quiet_leaves}

module _ (sh : Shape) where
  -- ---- parts of a log

  -- a front of a lawful log is lawful
  pub lawful_front : (log more : List Logged) (s : Parts) → IsLawfulFrom sh s (made_in (log ++ more)) → IsLawfulFrom sh s (made_in log)
  lawful_front [] more s lawful = tt
  lawful_front (entry ∷ log) more s lawful = (lawful.0, lawful.1, lawful_front log more (after sh s entry.made) lawful.2)

  -- and so is what stands behind it
  pub lawful_behind : (log more : List Logged) (s : Parts) → IsLawfulFrom sh s (made_in (log ++ more)) → IsLawfulFrom sh (left_by sh s log) (made_in more)
  lawful_behind [] more s lawful = lawful
  lawful_behind (entry ∷ log) more s lawful = lawful_behind log more (after sh s entry.made) lawful.2

  -- ---- what a log leaves follows the machine

  follows_from : (log : List Logged) (s : Parts) (m : IsolationMachine) → IsShape sh → Sound sh s → FollowsMachine sh s m → IsLawfulFrom sh s (made_in log)
      → Sound sh (left_by sh s log) × FollowsMachine sh (left_by sh s log) (fold moved_on m (occurrences_from sh s log))
  follows_from [] s m shape ok f lawful = (ok, f)
  follows_from (entry ∷ log) s m shape ok f lawful =
      let step = made_step sh s entry.made m shape ok f lawful.0 lawful.1 in
      follows_from log (after sh s entry.made) (moved_on m (occurrence_of sh s entry)) shape (made_keeps sh s entry.made shape ok lawful.0)
      (subst (FollowsMachine sh (after sh s entry.made)) (moved_is m step.0 (occurrence_of sh s entry) step.1) step.2) lawful.2

  -- behind a whole log, with the parts that it leaves
  pub follows_whole : (log : List Logged) → IsShape sh → IsLawfulLog sh (made_in log) → Sound sh (parts_after sh log) × FollowsMachine sh (parts_after sh log) (machine_after sh log)
  follows_whole log shape lawful = follows_from log (opening sh) (machine.opening_from sh.first) shape (sound sh shape) (opening_follows sh shape) lawful

  -- the machine behind a log that goes on
  pub machine_on : (log more : List Logged) → machine_after sh (log ++ more) ≡ fold moved_on (machine_after sh log) (occurrences_from sh (parts_after sh log) more)
  machine_on log more =
      ap (fold moved_on (machine.opening_from sh.first)) (occurrences_append sh (opening sh) log more)
      ∙ fold-append moved_on (machine.opening_from sh.first) (occurrences_in sh log) (occurrences_from sh (parts_after sh log) more)

  -- ---- commits

  more_from : (log : List Logged) (s : Parts) (m : IsolationMachine) → HasMore m.history (fold moved_on m (occurrences_from sh s log)).history
  more_from [] s m = ([], sym (append-nil m.history))
  more_from (entry ∷ log) s m =
      let o = occurrence_of sh s entry in
      more_again m.history (moved_on m o).history (fold moved_on (moved_on m o) (occurrences_from sh (after sh s entry.made) log)).history
      (commits_stay m o) (more_from log (after sh s entry.made) (moved_on m o))

  pub more_commits : (earlier later : List Logged) → GoesOn earlier later → HasMore (commits_in sh earlier) (commits_in sh later)
  more_commits earlier later goes =
      subst (λ l. HasMore (commits_in sh earlier) (commits_in sh l)) (sym goes.1)
      (subst (λ (x : IsolationMachine). HasMore (commits_in sh earlier) x.history) (sym (machine_on earlier goes.0)) (more_from goes.0 (parts_after sh earlier) (machine_after sh earlier)))

  -- ---- a session whose own events are no commands

  -- none of the events is a command
  abbrev pub AreQuiet : List Occurrence → Type 0
  AreQuiet [] = Unit {0}
  AreQuiet (o ∷ os) = (command_in o.event ≡ None) × AreQuiet os

  -- a session's events in the rest of a log stand under it
  pub under_rest : (q : ℕ) (log more : List Logged) → StandsUnder q (log ++ more) → StandsUnder q more
  under_rest q [] more all = all
  under_rest q (entry ∷ log) more all = under_rest q log more all.1

  quiet_from : (q : ℕ) (log : List Logged) (s : Parts) (m : IsolationMachine) → AreQuiet (under q (occurrences_from sh s log)) → StandsUnder q log
      → Leaves q m (fold moved_on m (occurrences_from sh s log))
  quiet_from q [] s m quiet named = left_alone q m
  quiet_from q (entry ∷ log) s m quiet named =
      go (entry.session == q) refl quiet (λ more. quiet_from q log (after sh s entry.made) (moved_on m (occurrence_of sh s entry)) more named.1)
    where
      o : Occurrence
      o = occurrence_of sh s entry

      rest : List Occurrence
      rest = under q (occurrences_from sh (after sh s entry.made) log)

      last : IsolationMachine
      last = fold moved_on (moved_on m o) (occurrences_from sh (after sh s entry.made) log)

      apart : (entry.session == q) ≡ false → session_of entry.made.event ≢ Some q
      apart is named' = absurd (let same : entry.session ≡ q = named.0 named' in let never : ⊥ = grind (arith, nat_tests, same, is) in never)

      go : (b : Bool) → (entry.session == q) ≡ b → AreQuiet (cond b (o ∷ rest) rest) → (AreQuiet rest → Leaves q (moved_on m o) last) → Leaves q m last
      go true is all later = left_on q m (moved_on m o) last (quiet_leaves q m o all.0) (later all.1)
      go false is all later = left_on q m (moved_on m o) last (other_leaves q m o (apart is)) (later all)

  -- from one log to another, by which the session made such events alone
  pub quiet_on : (q : ℕ) (earlier later : List Logged) (made : List Occurrence) → GoesOn earlier later → own_in sh q later ≡ own_in sh q earlier ++ made
      → AreQuiet made → StandsUnder q later → Leaves q (machine_after sh earlier) (machine_after sh later)
  quiet_on q earlier later made goes own quiet named =
      subst (λ l. Leaves q (machine_after sh earlier) (machine_after sh l)) (sym goes.1)
      (subst (Leaves q (machine_after sh earlier)) (sym (machine_on earlier goes.0))
      (quiet_from q goes.0 (parts_after sh earlier) (machine_after sh earlier) (subst AreQuiet (sym is) quiet)
      (under_rest q earlier goes.0 (subst (StandsUnder q) goes.1 named))))
    where
      is : under q (occurrences_from sh (parts_after sh earlier) goes.0) ≡ made
      is = append_cancel_left (own_in sh q earlier) (under q (occurrences_from sh (parts_after sh earlier) goes.0)) made
          (sym (own_on sh q earlier goes.0) ∙ ap (own_in sh q) (sym goes.1) ∙ own)

  -- ---- the last event of a log

  pub last_step : (before : List Logged) (entry : Logged) → IsShape sh → IsLawfulLog sh (made_in (before ++ entry ∷ []))
      → IsStep (command_in entry.made.event) (reads_handed entry.made.event) (machine_after sh before) (reply_after sh (parts_after sh before) entry.made) (machine_after sh (before ++ entry ∷ []))
  last_step before entry shape lawful =
      let front = follows_whole before shape (lawful_front before (entry ∷ []) (opening sh) lawful) in
      let one = lawful_behind before (entry ∷ []) (opening sh) lawful in
      let step = made_step sh (parts_after sh before) entry.made (machine_after sh before) shape front.0 front.1 one.0 one.1 in
      subst (IsStep (command_in entry.made.event) (reads_handed entry.made.event) (machine_after sh before) (reply_after sh (parts_after sh before) entry.made))
      (moved_is (machine_after sh before) step.0 (occurrence_of sh (parts_after sh before) entry) step.1 ∙ sym (machine_on before (entry ∷ []))) step.1

pub logs_follow : LogsFollowTheMachine
logs_follow shape log is lawful = (follows_whole shape log is lawful).1

pub commits_go_on : CommitsGoOn
commits_go_on = more_commits
