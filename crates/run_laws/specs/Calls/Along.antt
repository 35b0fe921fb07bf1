-- The snapshot-isolation machine along a log, and what each session has open on the way.
use Rattle.std.specs.Prelude.{◌≡◌, ℕ, Bool, true, List, [], ◌∷◌, ◌++◌, map}
use Rattle.std.specs.List.{flat_map, list_all}
use Rattle.core_laws.specs.Events.Laws.{IsStep, command_in}
use Rattle.event_spec.specs.Parts.{Parts, Shape}
use Rattle.event_spec.specs.Lawful.{reads_handed}
use Rattle.event_spec.specs.Replay.{IsLawfulLog, after, opening, reply_after}
use Rattle.event_spec.specs.Sound.{IsShape}
use Rattle.isolation_spec.specs.Machine.{IsolationMachine}
use Rattle.isolation_spec.specs.Machine as machine
use Rattle.run_spec.specs.Calls.{AreCalls, Call}
use Rattle.run_spec.specs.Occurrences.{Logged, Occurrence, events_in, occurrence_of}
use Rattle.run_laws.specs.Calls.Asking.{is_of}
use Rattle.run_laws.specs.Calls.Open.{AgreesWith}

-- The machine goes with each event of a log, and before and behind each it has open what the
-- sessions have.
abbrev pub GoesAlong : Shape → Parts → List Occurrence → IsolationMachine → List Logged → Type 0
GoesAlong shape parts front before [] = AgreesWith front before
GoesAlong shape parts front before (entry ∷ log) =
    AgreesWith front before
    × (next : IsolationMachine)
    × IsStep (command_in entry.made.event) (reads_handed entry.made.event) before
    (reply_after shape parts entry.made) next
    × GoesAlong
    shape
    (after shape parts entry.made)
    (front ++ occurrence_of shape parts entry ∷ [])
    next
    log

-- each event of a log stands under its own session
abbrev pub are_named : List Logged → Bool
are_named log = list_all (λ entry. is_of entry.session entry.made.event) log

-- So it goes along every lawful log whose events stand under their sessions.
abbrev pub MachinesGoAlong : Type 0
MachinesGoAlong = (shape : Shape) (log : List Logged) → IsShape shape
    → IsLawfulLog shape (map (λ entry. entry.made) log)
    → are_named log ≡ true
    → GoesAlong shape (opening shape) [] (machine.opening_from shape.first) log

-- The events of calls that go on from events of one session are of that session.
abbrev pub CallsAreTheSessions : Type 0
CallsAreTheSessions = (shape : Shape) (worker : Bool) (session : ℕ)
    (front : List Occurrence) (calls : List Call)
    → list_all (is_of session) (events_in front) ≡ true
    → AreCalls shape worker session front calls
    → list_all (is_of session) (events_in (flat_map (λ call. call.made) calls)) ≡ true
