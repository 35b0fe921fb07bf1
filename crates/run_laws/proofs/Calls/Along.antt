-- The machine along a log, and a session's events along its calls.
use Rattle.std.proofs.Common.{◌≡◌, ℕ, Bool, true, false, ◌&&◌, ◌==◌, List, [], ◌∷◌, ◌++◌, map, Option, None, Some, option_map, refl, ap, ◌∙◌, arith}
use Rattle.std.specs.Prelude.{IfSome, fold}
use Rattle.std.specs.List.{flat_map, list_all}
use Rattle.std.proofs.lemmas.Bool.Decides.{nat_tests}
use Rattle.std.proofs.lemmas.List.Folds.{list_all-append}
use Rattle.std.proofs.lemmas.Bool.{and_from}
use Rattle.event_spec.specs.declared.event.Event.TheVariants as event
use Rattle.event_spec.specs.declared.own.OwnTransaction.{OwnTransaction}
use Rattle.event_spec.specs.declared.reply.Reply.TheVariants as reply
use Rattle.event_spec.specs.Effects.{CoreEvent}
use Rattle.event_spec.specs.Lawful.{session_of}
use Rattle.event_spec.specs.Parts.{Parts, Shape}
use Rattle.event_spec.specs.Replay.{after}
use Rattle.event_spec.specs.Replies.{CoreReply}
use Rattle.isolation_spec.specs.declared.place.Place.{Place}
use Rattle.isolation_spec.specs.Contents.{place_at, place_of}
use Rattle.isolation_spec.specs.Machine.{IsolationMachine}
use Rattle.core_laws.specs.Logs.Laws.{IsAnsweredFrom}
use Rattle.core_laws.proofs.Logs.Logs.{replies_as_the_machine}
use Rattle.run_spec.specs.Calls.{Call}
use Rattle.run_spec.specs.Occurrences.{Logged, Occurrence, events_in, occurrence_of}
use Rattle.run_spec.specs.Opened.{own_after, own_behind, with_own}
use Rattle.run_laws.specs.Calls.Along.{CallsAreTheSessions, GoesAlong, MachinesGoAlong, are_named}
use Rattle.run_laws.specs.Calls.Asking.{is_of}
use Rattle.run_laws.specs.Calls.Open.{AgreesWith}
use Rattle.run_laws.proofs.Calls.Asking.{events_are_the_sessions}
use Rattle.run_laws.proofs.Calls.Open.{nothing_is_open, opens_as, with_own_is}

-- False is not the same as true.
not_true : false ≡ true → ⊥
not_true e = cc

-- of two that hold together the first does
pub and_first : (a b : Bool) → (a && b) ≡ true → a ≡ true
and_first true b e = refl
and_first false b e = absurd (not_true e)

-- of two that hold together the second does
pub and_second : (a b : Bool) → (a && b) ≡ true → b ≡ true
and_second true b e = e
and_second false b e = absurd (not_true e)

-- Numbers that are tested as the same are the same.
number_is : (a b : ℕ) → (a == b) ≡ true → a ≡ b
number_is a b e = grind (arith, nat_tests, e)

-- an event that is of a session or of none names no other
pub named : (session : ℕ) (e : CoreEvent) → is_of session e ≡ true → IfSome (session_of e) (λ other. other ≡ session)
named session e is = go (session_of e) is
  where
    go : (o : Option ℕ) → Rattle.std.specs.Option.option_map_or (λ other. other == session) o true ≡ true
        → IfSome o (λ other. other ≡ session)
    go None h = tt
    go (Some other) h = number_is other session h

-- From any parts on the machine goes along a log that it answers and whose events are named.
along : (shape : Shape) (parts : Parts) (front : List Occurrence) (before : IsolationMachine) (log : List Logged)
    → are_named log ≡ true → AgreesWith front before
    → IsAnsweredFrom shape parts before (map (λ entry. entry.made) log) → GoesAlong shape parts front before log
along shape parts front before [] are agrees answered = agrees
along shape parts front before (entry ∷ log) are agrees answered = (
  agrees,
  answered.0,
  answered.1,
  along
      shape
      (after shape parts entry.made)
      (front ++ occurrence_of shape parts entry ∷ [])
      answered.0
      log
      (and_second (is_of entry.session entry.made.event) (are_named log) are)
      (opens_as
      shape
      parts
      entry
      front
      before
      answered.0
      (named entry.session entry.made.event (and_first (is_of entry.session entry.made.event) (are_named log) are))
      answered.1
      agrees)
      answered.2,
)

-- the machine goes along every lawful log whose events stand under their sessions
pub machines_go_along : MachinesGoAlong
machines_go_along shape log is_shape lawful are = along
    shape
    (Rattle.event_spec.specs.Replay.opening shape)
    []
    (Rattle.isolation_spec.specs.Machine.opening_from shape.first)
    log
    are
    (nothing_is_open shape.first)
    (replies_as_the_machine shape (map (λ (entry : Logged). entry.made) log) is_shape lawful)

-- ---- a session's events

-- What is open, if anything, is of the session.
abbrev IsOwn : ℕ → Option OwnTransaction → Type 0
IsOwn session own = IfSome own (λ t. t.session ≡ session)

-- Behind a begin of the session what is open is of it.
begun_is : (session other : ℕ) (own : Option OwnTransaction) (told : CoreReply) → IsOwn session own → (other == session) ≡ true
    → IsOwn session (Rattle.run_spec.specs.Opened.begun_by other own told)
begun_is session other own (reply.Begun snapshot) was is = number_is other session is
begun_is session other own _ was is = was

-- Behind a write, accepted or not, what is open is of the session still.
wrote_is : (session : ℕ) (place : Place) (own : Option OwnTransaction) (told : CoreReply) → IsOwn session own
    → IsOwn session (option_map (with_own place told) own)
wrote_is session place None told was = tt
wrote_is session place (Some t) told was = (with_own_is place told t).1 ∙ was

-- Behind a commit, refused or not, what is open is of the session.
committed_is : (session : ℕ) (own : Option OwnTransaction) (told : CoreReply) → IsOwn session own
    → IsOwn session (Rattle.run_spec.specs.Opened.committed_by own told)
committed_is session own (reply.Stale what number) was = was
committed_is session own _ was = tt

-- Behind an event that is of the session or of none what is open is of the session.
behind_is : (session : ℕ) (own : Option OwnTransaction) (e : CoreEvent) (told : CoreReply) → IsOwn session own
    → is_of session e ≡ true → IsOwn session (own_behind own e told)
behind_is session own (event.Begin other) told was is = begun_is session other own told was is
behind_is session own (event.Get handed table key) told was is = was
behind_is session own (event.Insert handed table row) told was is = wrote_is session (place_of table row) own told was
behind_is session own (event.Update handed table row) told was is = wrote_is session (place_of table row) own told was
behind_is session own (event.Delete handed table key) told was is = wrote_is session (place_at table key) own told was
behind_is session own (event.Read handed table block) told was is = was
behind_is session own (event.Range handed table low high) told was is = was
behind_is session own (event.Commit handed reads) told was is = committed_is session own told was
behind_is session own (event.Abort handed) told was is = tt
behind_is session own event.Oldest told was is = was
behind_is session own (event.Observe table block) told was is = was
behind_is session own (event.Prune table block oldest) told was is = was
behind_is session own (event.Look table block) told was is = was
behind_is session own (event.Move table moves) told was is = was
behind_is session own (event.Seal table block) told was is = was
behind_is session own (event.Image table block image) told was is = was
behind_is session own (event.Thaw table block) told was is = was

-- Behind events of the session, with its own open in front, what is open is of it.
own_is_from : (session : ℕ) (own : Option OwnTransaction) (events : List Occurrence) → IsOwn session own
    → list_all (is_of session) (events_in events) ≡ true
    → IsOwn session (fold (λ own (o : Occurrence). own_behind own o.event o.reply) own events)
own_is_from session own [] was are = was
own_is_from session own (first ∷ rest) was are = own_is_from
    session
    (own_behind own first.event first.reply)
    rest
    (behind_is session own first.event first.reply was (and_first (is_of session first.event) (list_all (is_of session) (events_in rest)) are))
    (and_second (is_of session first.event) (list_all (is_of session) (events_in rest)) are)

-- Behind events that are all of the session what is open is of it.
own_is : (session : ℕ) (front : List Occurrence) → list_all (is_of session) (events_in front) ≡ true
    → IsOwn session (own_after front)
own_is session front are = own_is_from session None front tt are

-- The events of two lists in a row are those of the first and those of the second.
events_append : (xs ys : List Occurrence) → events_in (xs ++ ys) ≡ events_in xs ++ events_in ys
events_append [] ys = refl
events_append (x ∷ xs) ys = ap (λ (es : List CoreEvent). x.event ∷ es) (events_append xs ys)

-- where the events in front and those behind are a session's, all are
pub all_append : (session : ℕ) (xs ys : List Occurrence) → list_all (is_of session) (events_in xs) ≡ true
    → list_all (is_of session) (events_in ys) ≡ true → list_all (is_of session) (events_in (xs ++ ys)) ≡ true
all_append session xs ys e f =
    ap (list_all (is_of session)) (events_append xs ys)
    ∙ list_all-append (is_of session) (events_in xs) (events_in ys)
    ∙ and_from (list_all (is_of session) (events_in xs)) (list_all (is_of session) (events_in ys)) e f

-- the events of calls that go on from a session's are that session's
pub calls_are_the_sessions : CallsAreTheSessions
calls_are_the_sessions shape worker session front [] are h = refl
calls_are_the_sessions shape worker session front (call ∷ calls) are h =
    let here = events_are_the_sessions shape worker session front call (own_is session front are) h.0 in
    all_append
    session
    call.made
    (flat_map (λ (call : Call). call.made) calls)
    here
    (calls_are_the_sessions shape worker session (front ++ call.made) calls (all_append session front call.made are here) h.1)
