-- Traces one behind the other, and what their lends leave.
use Rattle.std.proofs.Common.{◌≡◌, ℕ, ◌==◌, Bool, true, false, cond, not, List, [], ◌∷◌, ◌++◌, Option, fold, map, refl, sym, ap, ◌∙◌, subst, eq-eqb}
use Rattle.std.specs.List.{list_all}
use Rattle.std.proofs.lemmas.Bool.{and_parts}
use Rattle.event_spec.specs.Parts.{Parts, Shape}
use Rattle.event_spec.specs.Replay.{IsLawfulFrom, after, reply_after}
use Rattle.core_laws.proofs.Sound.Bodies.{true_false}
use Rattle.event_spec.specs.declared.own.OwnTransaction.{OwnTransaction}
use Rattle.run_spec.specs.Occurrences.{Logged, Occurrence, occurrence_of, occurrences_from, under}
use Rattle.run_spec.specs.Opened.{own_behind}
use Rattle.run_spec.specs.Told.{is_shared}
use Rattle.run_spec.specs.Traces.{Action, EachAlong, MayLend, OwnFitsAt, OwnLendsFit, as_event, as_log, log_in}
use Rattle.store_laws.proofs.Lends.{lend_is_granted, lend_keeps, lend_leaves}
use Rattle.store_laws.specs.Stretches.{is_event}
use Rattle.store_laws.proofs.Entries.{left_by}

-- The log of two traces is the log of one and then that of the other.
pub log_append : (xs ys : List Action) → log_in (xs ++ ys) ≡ log_in xs ++ log_in ys
log_append [] ys = refl
log_append (x ∷ xs) ys = go (log_append xs ys) x.lent
  where
    go : log_in (xs ++ ys) ≡ log_in xs ++ log_in ys → (lent : Bool) → cond lent (log_in (xs ++ ys)) (x.entry ∷ log_in (xs ++ ys)) ≡ cond lent (log_in xs) (x.entry ∷ log_in xs) ++ log_in ys
    go h true = h
    go h false = ap (λ log. x.entry ∷ log) h

-- So are all their entries.
pub entries_append : (xs ys : List Action) → as_log (xs ++ ys) ≡ as_log xs ++ as_log ys
entries_append [] ys = refl
entries_append (x ∷ xs) ys = ap (λ log. x.entry ∷ log) (entries_append xs ys)

-- Events have their entries in the log,
pub log_of_events : (log : List Logged) → log_in (map as_event log) ≡ log
log_of_events [] = refl
log_of_events (entry ∷ log) = ap (λ more. entry ∷ more) (log_of_events log)

-- and no others.
pub entries_of_events : (log : List Logged) → as_log (map as_event log) ≡ log
entries_of_events [] = refl
entries_of_events (entry ∷ log) = ap (λ more. entry ∷ more) (entries_of_events log)

module _ (shape : Shape) where
  -- What was lent of a trace might be.
  abbrev pub Lawful : Parts → Action → Type 0
  Lawful parts action = action.lent ≡ true → MayLend shape parts action.entry

  -- What holds along a trace, something weaker does.
  pub along_weaker : (H K : Parts → Action → Type 0) → ((parts : Parts) (action : Action) → H parts action → K parts action)
      → (parts : Parts) (trace : List Action) → EachAlong shape H parts trace → EachAlong shape K parts trace
  along_weaker H K weaker parts [] along = tt
  along_weaker H K weaker parts (action ∷ trace) along =
      (weaker parts action along.0, along_weaker H K weaker (after shape parts action.entry.made) trace along.1)

  -- What holds along two traces holds along both in turn.
  pub along_append : (H : Parts → Action → Type 0) (parts : Parts) (xs ys : List Action)
      → EachAlong shape H parts xs → EachAlong shape H (left_by shape parts (as_log xs)) ys → EachAlong shape H parts (xs ++ ys)
  along_append H parts [] ys a b = b
  along_append H parts (x ∷ xs) ys a b = (a.0, along_append H (after shape parts x.entry.made) xs ys a.1 b)

  -- The events of a trace leave what the whole of it leaves.
  pub same_left : (parts : Parts) (trace : List Action) → EachAlong shape Lawful parts trace → left_by shape parts (as_log trace) ≡ left_by shape parts (log_in trace)
  same_left parts [] along = refl
  same_left parts (action ∷ trace) along = go (same_left (after shape parts action.entry.made) trace along.1) action.lent refl
    where
      next : Parts
      next = after shape parts action.entry.made

      go : left_by shape next (as_log trace) ≡ left_by shape next (log_in trace) → (lent : Bool) → action.lent ≡ lent
          → left_by shape next (as_log trace) ≡ left_by shape parts (cond lent (log_in trace) (action.entry ∷ log_in trace))
      go h true is = h ∙ ap (λ s. left_by shape s (log_in trace)) (lend_leaves shape parts action.entry (along.0 is))
      go h false is = h

  -- what a session has open behind some of its events
  abbrev opened : Option OwnTransaction → List Occurrence → Option OwnTransaction
  opened own made = fold (λ own occurrence. own_behind own occurrence.event occurrence.reply) own made

  -- A session has open what the events of a trace tell.
  pub same_open : (session : ℕ) (parts : Parts) (trace : List Action) → EachAlong shape Lawful parts trace → (own : Option OwnTransaction)
      → opened own (under session (occurrences_from shape parts (as_log trace))) ≡ opened own (under session (occurrences_from shape parts (log_in trace)))
  same_open session parts [] along own = refl
  same_open session parts (action ∷ trace) along own =
      go (same_open session (after shape parts action.entry.made) trace along.1) action.lent refl
    where
      next : Parts
      next = after shape parts action.entry.made

      whole : List Occurrence
      whole = under session (occurrences_from shape next (as_log trace))

      rest : List Occurrence
      rest = under session (occurrences_from shape next (log_in trace))

      here : Occurrence
      here = occurrence_of shape parts action.entry

      mine : Bool
      mine = action.entry.session == session

      go : ((own : Option OwnTransaction) → opened own whole ≡ opened own rest) → (lent : Bool) → action.lent ≡ lent
          → opened own (cond mine (here ∷ whole) whole)
          ≡ opened own (under session (occurrences_from shape parts (cond lent (log_in trace) (action.entry ∷ log_in trace))))
      go h true is = at_lend mine ∙ h own ∙ ap (λ s. opened own (under session (occurrences_from shape s (log_in trace)))) (lend_leaves shape parts action.entry (along.0 is))
        where
          at_lend : (b : Bool) → opened own (cond b (here ∷ whole) whole) ≡ opened own whole
          at_lend true = ap (λ o. opened o whole) (lend_keeps shape parts action.entry (along.0 is) own here.reply)
          at_lend false = refl
      go h false is = at_event mine
        where
          at_event : (b : Bool) → opened own (cond b (here ∷ whole) whole) ≡ opened own (cond b (here ∷ rest) rest)
          at_event true = h (own_behind own here.event here.reply)
          at_event false = h own

  -- All entries of a trace are lawful, where those of its log are.
  pub whole_is_lawful : (parts : Parts) (trace : List Action) → EachAlong shape Lawful parts trace
      → IsLawfulFrom shape parts (map (λ entry. entry.made) (log_in trace)) → IsLawfulFrom shape parts (map (λ entry. entry.made) (as_log trace))
  whole_is_lawful parts [] along lawful = tt
  whole_is_lawful parts (action ∷ trace) along lawful = go (whole_is_lawful (after shape parts action.entry.made) trace along.1) action.lent refl lawful
    where
      next : Parts
      next = after shape parts action.entry.made

      Rest : Parts → Type 0
      Rest s = IsLawfulFrom shape s (map (λ entry. entry.made) (log_in trace))

      go : (Rest next → IsLawfulFrom shape next (map (λ entry. entry.made) (as_log trace))) → (lent : Bool) → action.lent ≡ lent
          → IsLawfulFrom shape parts (map (λ entry. entry.made) (cond lent (log_in trace) (action.entry ∷ log_in trace)))
          → IsLawfulFrom shape parts (map (λ entry. entry.made) (action.entry ∷ as_log trace))
      go h true is rest =
          let may = along.0 is in
          (may.lawful, (λ refused. absurd (true_false (sym refused ∙ lend_is_granted shape parts action.entry may))), h (subst Rest (sym (lend_leaves shape parts action.entry may)) rest))
      go h false is rest = (rest.0, rest.1, h rest.2)

  -- ---- one's own

  -- Entries of which none is a session's stand in its trace as events.
  pub others_stand : (session : ℕ) (parts : Parts) (log : List Logged) → under session (occurrences_from shape parts log) ≡ []
      → OwnLendsFit shape session parts (map as_event log)
  others_stand session parts [] none = tt
  others_stand session parts (entry ∷ log) none = go (entry.session == session) refl none
      (λ e. others_stand session (after shape parts entry.made) log e)
    where
      rest : List Occurrence
      rest = under session (occurrences_from shape (after shape parts entry.made) log)

      some : (x : Occurrence) (xs : List Occurrence) → x ∷ xs ≡ [] → ⊥
      some x xs h = cc

      other : (entry.session == session) ≡ false → entry.session ≡ session → ⊥
      other is same = true_false (sym (eq-eqb entry.session session same) ∙ is)

      go : (b : Bool) → (entry.session == session) ≡ b → cond b (occurrence_of shape parts entry ∷ rest) rest ≡ []
          → (rest ≡ [] → OwnLendsFit shape session (after shape parts entry.made) (map as_event log))
          → OwnLendsFit shape session parts (as_event entry ∷ map as_event log)
      go true is e later = absurd (some (occurrence_of shape parts entry) rest e)
      go false is e later = (record { lent = λ lent. absurd (true_false (sym lent)); own = λ same. absurd (other is same) }, later e)

  -- Events stand where they are, where one's own tell no image.
  pub events_stand : (session : ℕ) (parts : Parts) (log : List Logged) → list_all is_event (under session (occurrences_from shape parts log)) ≡ true
      → OwnLendsFit shape session parts (map as_event log)
  events_stand session parts [] all = tt
  events_stand session parts (entry ∷ log) all = go (entry.session == session) refl all
      (λ e. events_stand session (after shape parts entry.made) log e)
    where
      rest : List Occurrence
      rest = under session (occurrences_from shape (after shape parts entry.made) log)

      none_shared : (b : Bool) → not b ≡ true → b ≡ false
      none_shared false e = refl
      none_shared true e = absurd (true_false (sym e))

      other : (entry.session == session) ≡ false → entry.session ≡ session → ⊥
      other is same = true_false (sym (eq-eqb entry.session session same) ∙ is)

      go : (b : Bool) → (entry.session == session) ≡ b → list_all is_event (cond b (occurrence_of shape parts entry ∷ rest) rest) ≡ true
          → (list_all is_event rest ≡ true → OwnLendsFit shape session (after shape parts entry.made) (map as_event log))
          → OwnLendsFit shape session parts (as_event entry ∷ map as_event log)
      go true is e later =
          let both = and_parts (is_event (occurrence_of shape parts entry)) (list_all is_event rest) e in (
            record {
              lent = λ lent. absurd (true_false (sym lent));
              own = λ same. record { lend = λ lent. absurd (true_false (sym lent)); read = λ lent. none_shared (is_shared (reply_after shape parts entry.made)) both.0 };
            },
            later both.1,
          )
      go false is e later = (record { lent = λ lent. absurd (true_false (sym lent)); own = λ same. absurd (other is same) }, later e)

  -- What one lent might be lent.
  pub own_lawful : (session : ℕ) (parts : Parts) (action : Action) → OwnFitsAt shape session parts action → Lawful parts action
  own_lawful session parts action fits lent = (fits.own (fits.lent lent)).lend lent
