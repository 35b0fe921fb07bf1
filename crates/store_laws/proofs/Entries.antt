-- The entries of a hall's log, as those of a run.
use Rattle.std.proofs.Common.{◌≡◌, ℕ, ◌==◌, Bool, true, false, cond, List, [], ◌∷◌, ◌++◌, refl, sym, ap, ◌∙◌, append-nil, eq-eqb}
use Rattle.std.specs.Prelude.{fold}
use Rattle.std.proofs.lemmas.List.Elements.{filter-append}
use Rattle.event_spec.specs.Effects.{CoreEvent}
use Rattle.event_spec.specs.Parts.{Parts, Shape}
use Rattle.event_spec.specs.Replay.{IsLawfulFrom, after, opening}
use Rattle.hall_rule.specs.EventLog.{LawfulFrom, OnlyBy, own, replay, replay_from, under as hall_under}
use Rattle.hall_rule.specs.declared.view.Entry.{Entry}
use Rattle.hall_rule.proofs.Logs.{own_append}
use Rattle.hall_rule.proofs.Named.{only_own}
use Rattle.run_spec.specs.Handed.{own_in}
use Rattle.run_spec.specs.Occurrences.{Logged, Occurrence, occurrence_of, occurrences_from, occurrences_in, under}
use Rattle.store_laws.specs.Logs.{log_of, logged_of, made_in, store_meaning}
use Rattle.store_laws.specs.Own.{parts_after}
use Rattle.store_laws.specs.Laws.{LogsAreRuns}

module _ (shape : Shape) where
  -- both replay the same
  pub replay_is : (s : Parts) (log : List (Entry CoreEvent)) → replay_from (store_meaning shape) s log ≡ fold (after shape) s (made_in (log_of log))
  replay_is s [] = refl
  replay_is s (e ∷ log) = replay_is (after shape s (logged_of e).made) log

  -- the replay of the hall's log leaves the parts that the run's does
  pub replay_same : (log : List (Entry CoreEvent)) → replay (store_meaning shape) log ≡ parts_after shape (log_of log)
  replay_same log = replay_is (opening shape) log

  -- and ask the same
  lawful_is : (s : Parts) (log : List (Entry CoreEvent)) → LawfulFrom (store_meaning shape) s log → IsLawfulFrom shape s (made_in (log_of log))
  lawful_is s [] l = tt
  lawful_is s (e ∷ log) l = ((l.0, l.1), l.2, lawful_is (after shape s (logged_of e).made) log l.3)

  -- a log that is lawful to the hall is lawful as a run's
  pub lawful_same : (log : List (Entry CoreEvent)) → LawfulFrom (store_meaning shape) (store_meaning shape).start log → IsLawfulFrom shape (opening shape) (made_in (log_of log))
  lawful_same log l = lawful_is (opening shape) log l

  -- what a log leaves of some parts
  abbrev pub left_by : Parts → List Logged → Parts
  left_by parts log = fold (after shape) parts (made_in log)

  -- the occurrences of a log are its front's, then the rest's from the parts left there
  pub occurrences_append : (parts : Parts) (log more : List Logged) → occurrences_from shape parts (log ++ more) ≡ occurrences_from shape parts log ++ occurrences_from shape (left_by parts log) more
  occurrences_append parts [] more = refl
  occurrences_append parts (entry ∷ log) more = ap (λ (made : List Occurrence). occurrence_of shape parts entry ∷ made) (occurrences_append (after shape parts entry.made) log more)

  -- one's own events of a log that goes on
  pub own_on : (session : ℕ) (log more : List Logged) → own_in shape session (log ++ more) ≡ own_in shape session log ++ under session (occurrences_from shape (parts_after shape log) more)
  own_on session log more =
      ap (under session) (occurrences_append (opening shape) log more)
      ∙ filter-append (λ (o : Occurrence). o.session == session) (occurrences_in shape log) (occurrences_from shape (parts_after shape log) more)

  -- entries of which none stands under a session have no event of it
  none_of : (session : ℕ) (parts : Parts) (log : List (Entry CoreEvent)) → hall_under session log ≡ [] → under session (occurrences_from shape parts (log_of log)) ≡ []
  none_of session parts [] none' = refl
  none_of session parts (e ∷ log) none' = go (e.session == session) refl (none_of session (after shape parts (logged_of e).made) log)
    where
      rest : List Occurrence
      rest = under session (occurrences_from shape (after shape parts (logged_of e).made) (log_of log))

      some : (x : Entry CoreEvent) (xs : List (Entry CoreEvent)) → x ∷ xs ≡ [] → ⊥
      some x xs h = cc

      go : (b : Bool) → (e.session == session) ≡ b → (hall_under session log ≡ [] → rest ≡ []) → cond (e.session == session) (occurrence_of shape parts (logged_of e) ∷ rest) rest ≡ []
      go true is later = absurd (some e (hall_under session log) (sym (ap (λ c. cond c (e ∷ hall_under session log) (hall_under session log)) is) ∙ none'))
      go false is later =
          ap (λ c. cond c (occurrence_of shape parts (logged_of e) ∷ rest) rest) is
          ∙ later (sym (ap (λ c. cond c (e ∷ hall_under session log) (hall_under session log)) is) ∙ none')

  -- the entries of two logs in turn are those of one and then of the other
  pub log_append : (log more : List (Entry CoreEvent)) → log_of (log ++ more) ≡ log_of log ++ log_of more
  log_append [] more = refl
  log_append (e ∷ log) more = ap (λ es. logged_of e ∷ es) (log_append log more)

  -- a log that goes on by no event of these passes has no more of the session
  pub own_stays : (session : ℕ) (ids : List ℕ) (log more : List (Entry CoreEvent)) → own ids (log ++ more) ≡ own ids log → OnlyBy session ids (log ++ more)
      → own_in shape session (log_of (log ++ more)) ≡ own_in shape session (log_of log)
  own_stays session ids log more same alone =
      ap (own_in shape session) (log_append log more)
      ∙ own_on session (log_of log) (log_of more)
      ∙ ap (λ os. own_in shape session (log_of log) ++ os) (none_of session (parts_after shape (log_of log)) more nothing)
      ∙ append-nil (own_in shape session (log_of log))
    where
      same_rest : (xs ys : List (Entry CoreEvent)) → xs ++ ys ≡ xs → ys ≡ []
      same_rest [] ys e = e
      same_rest (x ∷ xs) ys e = same_rest xs ys (let t : xs ++ ys ≡ xs = cc in t)

      quiet : own ids more ≡ []
      quiet = same_rest (own ids log) (own ids more) (sym (own_append ids log more) ∙ same)

      only_rest : (xs ys : List (Entry CoreEvent)) → OnlyBy session ids (xs ++ ys) → OnlyBy session ids ys
      only_rest [] ys o = o
      only_rest (x ∷ xs) ys o = only_rest xs ys o.1

      nothing : hall_under session more ≡ []
      nothing = only_own session ids more (only_rest log more alone) ∙ ap (hall_under session) quiet

  -- an entry under the session is one more of its own
  pub own_grows : (session : ℕ) (log : List Logged) (entry : Logged) → entry.session ≡ session
      → own_in shape session (log ++ entry ∷ []) ≡ own_in shape session log ++ occurrence_of shape (parts_after shape log) entry ∷ []
  own_grows session log entry is =
      own_on session log (entry ∷ [])
      ∙ ap (λ b. own_in shape session log ++ cond b (occurrence_of shape (parts_after shape log) entry ∷ []) []) (eq-eqb entry.session session is)

-- a lawful log of the hall is one of a run, and leaves the same parts
pub logs_are_runs : LogsAreRuns
logs_are_runs shape log lawful = (lawful_same shape log lawful, replay_same shape log)
