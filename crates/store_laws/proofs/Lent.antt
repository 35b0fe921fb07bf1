-- A block that was lent, as a stretch of the log; and the log in which what was lent stands as it was
-- read.
use Rattle.std.proofs.Common.{◌≡◌, ℕ, ◌==◌, Bool, true, false, cond, List, [], ◌∷◌, ◌++◌, Some, fold, refl, sym, ap, ◌∙◌, subst, append-nil, eq-eqb}
use Rattle.std.proofs.lemmas.List.{map-append}
use Rattle.block_spec.specs.Bodies.{is_imaged, rows_of}
use Rattle.core_laws.proofs.Sound.Bodies.{true_false}
use Rattle.event_spec.specs.declared.event.Event.TheVariants as event
use Rattle.event_spec.specs.declared.own.OwnTransaction.{OwnTransaction}
use Rattle.event_spec.specs.declared.reply.Reply.TheVariants as reply
use Rattle.event_spec.specs.Effects.{CoreEvent}
use Rattle.event_spec.specs.Lawful.{HasBlock, OwnsAll, session_of}
use Rattle.event_spec.specs.Parts.{Parts, Shape, body_at}
use Rattle.event_spec.specs.Replay.{IsLawfulFrom, IsLawfulLog, Made, after, opening}
use Rattle.event_spec.specs.Replies.{CoreReply, reply_to_read, rows_read}
use Rattle.run_spec.specs.Handed.{GoesOn, Stretch, own_in, parts_left}
use Rattle.run_spec.specs.Occurrences.{Logged, Occurrence, occurrence_of, occurrences_from, under}
use Rattle.run_spec.specs.Told.{is_shared}
use Rattle.run_spec.specs.Traces.{Action, OwnLendsFit, as_log, log_in}
use Rattle.store_laws.proofs.Entries.{own_on}
use Rattle.store_laws.proofs.Looks.{lawful_parts}
use Rattle.store_laws.proofs.Machines.{under_rest}
use Rattle.store_laws.proofs.Stretches.{lent_lawful}
use Rattle.store_laws.proofs.Traces.{whole_is_lawful}
use Rattle.store_laws.specs.Logs.{made_in}
use Rattle.store_laws.specs.Own.{StandsUnder, occurrence_at, parts_after}

-- the read that a lend of a block stands for
abbrev pub lend_of : ℕ → OwnTransaction → ℕ → ℕ → Action
lend_of session own table block = record {
  entry = record { session = session; made = record { event = event.Read own table block; refused = false } };
  lent = true;
}

-- a session that lends a block at a log which it has seen
pub lent_stretch : (shape : Shape) (session : ℕ) (own : OwnTransaction) (table block : ℕ) (log : List Logged)
    → OwnsAll shape own (parts_after shape log) → HasBlock shape table block
    → is_imaged (body_at shape (parts_after shape log) table block).phase ≡ true
    → Stretch shape session log log (occurrence_at session (parts_after shape log) (event.Read own table block) (reply.Shared (rows_of (body_at shape (parts_after shape log) table block))) ∷ [])
lent_stretch shape session own table block log owns has imaged = record {
  trace = action ∷ [];
  goes_on = sym (append-nil log);
  lends = (
    record {
      lent = λ lent. refl;
      own = λ same. record {
        lend = λ lent. record { lawful = (owns, has); imaged = ap is_shared told };
        read = λ never. absurd (true_false never);
      };
    },
    tt,
  );
  own = ap (λ b. cond b (occurrence_of shape parts action.entry ∷ []) []) (eq-eqb session session refl)
      ∙ ap (λ (r : CoreReply). occurrence_at session parts (event.Read own table block) r ∷ []) told;
}
  where
    parts : Parts
    parts = parts_after shape log

    action : Action
    action = lend_of session own table block

    image : CoreReply
    image = reply.Shared (rows_of (body_at shape parts table block))

    read : CoreReply
    read = reply.Rows (rows_read shape parts own table block)

    told : reply_to_read shape parts own table block ≡ image
    told = ap (λ b. cond {A = CoreReply} b image read) imaged

-- a stretch goes on
pub stretch_goes : (shape : Shape) (session : ℕ) (old new : List Logged) (made : List Occurrence) → Stretch shape session old new made → GoesOn old new
stretch_goes shape session old new made s = (log_in s.trace, s.goes_on)

-- Two lists of events that are lawful one behind the other are a lawful one.
lawful_both : (sh : Shape) (xs ys : List Made) (s : Parts) → IsLawfulFrom sh s xs → IsLawfulFrom sh (fold (after sh) s xs) ys → IsLawfulFrom sh s (xs ++ ys)
lawful_both sh [] ys s first then = then
lawful_both sh (made ∷ xs) ys s first then = (first.0, first.1, lawful_both sh xs ys (after sh s made) first.2 then)

-- ---- the events alone

-- something of each event
abbrev pub EachEvent : (CoreEvent → Type 0) → List Occurrence → Type 0
EachEvent P [] = Unit {0}
EachEvent P (o ∷ os) = P o.event × EachEvent P os

module _ (shape : Shape) (session : ℕ) (P : CoreEvent → Type 0) where
  -- What holds of each event and lend of one's own holds of each event.
  pub events_alone : (s t : Parts) (trace : List Action) → EachEvent P (under session (occurrences_from shape s (as_log trace))) → EachEvent P (under session (occurrences_from shape t (log_in trace)))
  events_alone s t [] each = tt
  events_alone s t (action ∷ trace) each =
      go (events_alone (after shape s action.entry.made) t trace) (events_alone (after shape s action.entry.made) (after shape t action.entry.made) trace) action.lent
    where
      whole : List Occurrence
      whole = under session (occurrences_from shape (after shape s action.entry.made) (as_log trace))

      rest : List Occurrence
      rest = under session (occurrences_from shape (after shape t action.entry.made) (log_in trace))

      at_lend : (EachEvent P whole → EachEvent P (under session (occurrences_from shape t (log_in trace)))) → (mine : Bool)
          → EachEvent P (cond mine (occurrence_of shape s action.entry ∷ whole) whole) → EachEvent P (under session (occurrences_from shape t (log_in trace)))
      at_lend later true e = later e.1
      at_lend later false e = later e

      at_event : (EachEvent P whole → EachEvent P rest) → (mine : Bool)
          → EachEvent P (cond mine (occurrence_of shape s action.entry ∷ whole) whole) → EachEvent P (cond mine (occurrence_of shape t action.entry ∷ rest) rest)
      at_event later true e = (e.0, later e.1)
      at_event later false e = later e

      go : (EachEvent P whole → EachEvent P (under session (occurrences_from shape t (log_in trace)))) → (EachEvent P whole → EachEvent P rest) → (lent : Bool)
          → EachEvent P (under session (occurrences_from shape t (cond lent (log_in trace) (action.entry ∷ log_in trace))))
      go lend event' true = at_lend lend (action.entry.session == session) each
      go lend event' false = at_event event' (action.entry.session == session) each

-- ---- the whole, as a log

-- What stands under a session in front of a log does in the front alone.
under_front : (q : ℕ) (log more : List Logged) → StandsUnder q (log ++ more) → StandsUnder q log
under_front q [] more all = tt
under_front q (entry ∷ log) more all = (all.0, under_front q log more all.1)

-- What stands under a session in two logs does in both in turn.
under_both : (q : ℕ) (log more : List Logged) → StandsUnder q log → StandsUnder q more → StandsUnder q (log ++ more)
under_both q [] more first then = then
under_both q (entry ∷ log) more first then = (first.0, under_both q log more first.1 then)

-- What one lent stands under one's session.
under_whole : (shape : Shape) (session : ℕ) (parts : Parts) (trace : List Action) → OwnLendsFit shape session parts trace → StandsUnder session (log_in trace) → StandsUnder session (as_log trace)
under_whole shape session parts [] fits under' = tt
under_whole shape session parts (action ∷ trace) fits under' = go (under_whole shape session (after shape parts action.entry.made) trace fits.1) action.lent refl under'
  where
    go : (StandsUnder session (log_in trace) → StandsUnder session (as_log trace)) → (lent : Bool) → action.lent ≡ lent
        → StandsUnder session (cond lent (log_in trace) (action.entry ∷ log_in trace))
        → (session_of action.entry.made.event ≡ Some session → action.entry.session ≡ session) × StandsUnder session (as_log trace)
    go later true is u = ((λ names. fits.0.lent is), later u)
    go later false is u = (u.0, later u.1)

module _ (shape : Shape) (session : ℕ) (old new : List Logged) (made : List Occurrence) (s : Stretch shape session old new made) where
  -- The log in which what was lent stands as it was read.
  abbrev pub whole_log : List Logged
  whole_log = old ++ as_log s.trace

  -- it is lawful where the log is
  pub whole_lawful : IsLawfulLog shape (made_in new) → IsLawfulLog shape (made_in whole_log)
  whole_lawful lawful =
      let both = lawful_parts shape (made_in old) (made_in (log_in s.trace)) (opening shape)
      (subst (IsLawfulLog shape) (ap made_in s.goes_on ∙ map-append (λ (e : Logged). e.made) old (log_in s.trace)) lawful) in
      subst (IsLawfulLog shape) (sym (map-append (λ (e : Logged). e.made) old (as_log s.trace)))
      (lawful_both shape (made_in old) (made_in (as_log s.trace)) (opening shape) both.0
      (whole_is_lawful shape (parts_left shape old) s.trace (lent_lawful shape session (parts_left shape old) s.trace s.lends) both.1))

  -- one's own of it are the events and lends
  pub whole_own : own_in shape session whole_log ≡ own_in shape session old ++ made
  whole_own = own_on shape session old (as_log s.trace) ∙ ap (λ os. own_in shape session old ++ os) s.own

  -- and they stand under one's session
  pub whole_under : StandsUnder session new → StandsUnder session whole_log
  whole_under all =
      let both = subst (StandsUnder session) s.goes_on all in
      under_both session old (as_log s.trace) (under_front session old (log_in s.trace) both)
      (under_whole shape session (parts_left shape old) s.trace s.lends (under_rest shape session old (log_in s.trace) both))

  -- one's own events since are these
  abbrev pub own_events : List Occurrence
  own_events = under session (occurrences_from shape (parts_left shape old) (log_in s.trace))

  pub events_grown : own_in shape session new ≡ own_in shape session old ++ own_events
  events_grown = ap (own_in shape session) s.goes_on ∙ own_on shape session old (log_in s.trace)

  pub events_each : (P : CoreEvent → Type 0) → EachEvent P made → EachEvent P own_events
  events_each P each = events_alone shape session P (parts_left shape old) (parts_left shape old) s.trace (subst (EachEvent P) (sym s.own) each)
