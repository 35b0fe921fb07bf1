-- What one made from a log to a later one.
use Rattle.std.proofs.Common.{◌≡◌, ℕ, ◌==◌, List, [], ◌∷◌, ◌++◌, fold, map, refl, sym, ap, ◌∙◌, subst, append-nil, append_assoc}
use Rattle.std.specs.List.{list_all}
use Rattle.std.proofs.lemmas.List.Elements.{filter-append}
use Rattle.std.proofs.lemmas.List.Sums.{fold-append}
use Rattle.std.specs.Prelude.{None}
use Rattle.event_spec.specs.Parts.{Parts, Shape}
use Rattle.event_spec.specs.Replay.{after, opening}
use Rattle.run_spec.specs.Handed.{GoesOn, Stretch, own_in, parts_left}
use Rattle.run_spec.specs.Occurrences.{Logged, Occurrence, occurrences_from, under}
use Rattle.run_spec.specs.Opened.{own_after, own_behind}
use Rattle.run_spec.specs.Traces.{Action, EachAlong, OwnFitsAt, as_event, as_log, log_in}
use Rattle.store_laws.proofs.Entries.{left_by, occurrences_append, own_on}
use Rattle.store_laws.proofs.Traces.{Lawful, along_append, along_weaker, entries_append, entries_of_events, events_stand, log_append, log_of_events, others_stand, own_lawful, same_left, same_open}
use Rattle.store_laws.specs.Stretches.{EventsAreAStretch, is_event, NothingIsAStretch, StretchesJoin, StretchesLeaveOpen}

-- Lists that are one and begin with the same events go on alike.
pub same_rest : (xs ys zs : List Occurrence) → xs ++ ys ≡ xs ++ zs → ys ≡ zs
same_rest [] ys zs e = e
same_rest (x ∷ xs) ys zs e = same_rest xs ys zs (let tail : xs ++ ys ≡ xs ++ zs = cc in tail)

module _ (shape : Shape) (session : ℕ) where
  -- one's own events and lends of a trace
  abbrev own_along : Parts → List Logged → List Occurrence
  own_along parts log = under session (occurrences_from shape parts log)

  -- What one has more in a later log are one's own events since.
  since : (old new : List Logged) (made : List Occurrence) → (on : GoesOn old new) → own_in shape session new ≡ own_in shape session old ++ made
      → own_along (parts_left shape old) on.0 ≡ made
  since old new made on more = same_rest (own_in shape session old) (own_along (parts_left shape old) on.0) made
      (sym (own_on shape session old on.0) ∙ ap (own_in shape session) (sym on.1) ∙ more)

  -- What is along a trace was lent as it might be.
  pub lent_lawful : (parts : Parts) (trace : List Action) → EachAlong shape (OwnFitsAt shape session) parts trace → EachAlong shape (Lawful shape) parts trace
  lent_lawful = along_weaker shape (OwnFitsAt shape session) (Lawful shape) (own_lawful shape session)

  -- A stretch leaves what its trace leaves.
  pub left_there : (old new : List Logged) (made : List Occurrence) → (s : Stretch shape session old new made)
      → left_by shape (parts_left shape old) (as_log s.trace) ≡ parts_left shape new
  left_there old new made s =
      same_left shape (parts_left shape old) s.trace (lent_lawful (parts_left shape old) s.trace s.lends)
      ∙ sym (ap (parts_left shape) s.goes_on ∙ left_append (opening shape) old (log_in s.trace))
    where
      left_append : (parts : Parts) (log more : List Logged) → left_by shape parts (log ++ more) ≡ left_by shape (left_by shape parts log) more
      left_append parts [] more = refl
      left_append parts (entry ∷ log) more = left_append (after shape parts entry.made) log more

-- The events that one has more in a later log are a stretch, where none tells an image.
pub events_are_a_stretch : EventsAreAStretch
events_are_a_stretch shape session old new made on more all =
    let here = since shape session old new made on more in
    record {
      trace = map as_event on.0;
      goes_on = on.1 ∙ ap (λ log. old ++ log) (sym (log_of_events on.0));
      lends = events_stand shape session (parts_left shape old) on.0 (ap (list_all is_event) here ∙ all);
      own = ap (own_along shape session (parts_left shape old)) (entries_of_events on.0) ∙ here;
    }

-- One who has no more in a later log made nothing.
pub nothing_is_a_stretch : NothingIsAStretch
nothing_is_a_stretch shape session old new on same =
    let none = since shape session old new [] on (same ∙ sym (append-nil (own_in shape session old))) in
    record {
      trace = map as_event on.0;
      goes_on = on.1 ∙ ap (λ log. old ++ log) (sym (log_of_events on.0));
      lends = others_stand shape session (parts_left shape old) on.0 none;
      own = ap (own_along shape session (parts_left shape old)) (entries_of_events on.0) ∙ none;
    }

-- Stretches one behind the other are one.
pub stretches_join : StretchesJoin
stretches_join shape session old mid new made more one next =
    let there = left_there shape session old mid made one in
    record {
      trace = one.trace ++ next.trace;
      goes_on = next.goes_on
          ∙ ap (λ log. log ++ log_in next.trace) one.goes_on
          ∙ append_assoc old (log_in one.trace) (log_in next.trace)
          ∙ ap (λ log. old ++ log) (sym (log_append one.trace next.trace));
      lends = along_append shape (OwnFitsAt shape session) (parts_left shape old) one.trace next.trace one.lends
          (subst (λ s. EachAlong shape (OwnFitsAt shape session) s next.trace) (sym there) next.lends);
      own = ap (own_along shape session (parts_left shape old)) (entries_append one.trace next.trace)
          ∙ ap (under session) (occurrences_append shape (parts_left shape old) (as_log one.trace) (as_log next.trace))
          ∙ filter-append
          (λ (o : Occurrence). o.session == session)
          (occurrences_from shape (parts_left shape old) (as_log one.trace))
          (occurrences_from shape (left_by shape (parts_left shape old) (as_log one.trace)) (as_log next.trace))
          ∙ ap (λ s. own_along shape session (parts_left shape old) (as_log one.trace) ++ own_along shape session s (as_log next.trace)) there
          ∙ ap (λ os. os ++ own_along shape session (parts_left shape mid) (as_log next.trace)) one.own
          ∙ ap (λ os. made ++ os) next.own;
    }

-- Behind a stretch one has open what its events tell.
pub stretches_leave_open : StretchesLeaveOpen
stretches_leave_open shape session old new made s =
    let front = own_in shape session old in
    let events = own_along shape session (parts_left shape old) (log_in s.trace) in
    ap (λ log. own_after (own_in shape session log)) s.goes_on
    ∙ ap own_after (own_on shape session old (log_in s.trace))
    ∙ fold-append (λ own (o : Occurrence). own_behind own o.event o.reply) None front events
    ∙ sym (same_open shape session (parts_left shape old) s.trace (lent_lawful shape session (parts_left shape old) s.trace s.lends) (own_after front))
    ∙ ap (λ os. fold (λ own (o : Occurrence). own_behind own o.event o.reply) (own_after front) os) s.own
    ∙ sym (fold-append (λ own (o : Occurrence). own_behind own o.event o.reply) None front made)
