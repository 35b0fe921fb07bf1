-- Which events of a call ask the snapshot-isolation machine, and under which session they stand.
use Rattle.std.specs.Prelude.{◌≡◌, ℕ, ◌==◌, Bool, true, false, List, IfSome, is_none}
use Rattle.std.specs.List.{list_all}
use Rattle.std.specs.Option.{option_map_or}
use Rattle.core_laws.specs.Events.Laws.{command_in}
use Rattle.event_spec.specs.Effects.{CoreEvent}
use Rattle.event_spec.specs.Lawful.{session_of}
use Rattle.event_spec.specs.Parts.{Shape}
use Rattle.run_spec.specs.Calls.{Call, IsCall}
use Rattle.run_spec.specs.Occurrences.{Occurrence, events_in}
use Rattle.run_spec.specs.Opened.{own_after}
use Rattle.run_laws.specs.Calls.Coming.{is_single}

abbrev pub asks_nothing : CoreEvent → Bool
asks_nothing event = is_none (command_in event)

-- the event is of this session, or of none
abbrev pub is_of : ℕ → CoreEvent → Bool
is_of session event = option_map_or (λ other. other == session) (session_of event) true

-- Scans, exports and upkeep ask the machine nothing, so that it stays at each of their events.
abbrev pub OthersAskNothing : Type 0
OthersAskNothing = (shape : Shape) (worker : Bool) (session : ℕ)
    (front : List Occurrence) (call : Call)
    → is_single call.command ≡ false
    → IsCall shape worker session front call
    → list_all asks_nothing (events_in call.made) ≡ true

-- The events of a call are of its own session, where what that has open is its own.
abbrev pub EventsAreTheSessions : Type 0
EventsAreTheSessions = (shape : Shape) (worker : Bool) (session : ℕ)
    (front : List Occurrence) (call : Call)
    → IfSome (own_after front) (λ t. t.session ≡ session)
    → IsCall shape worker session front call
    → list_all (is_of session) (events_in call.made) ≡ true
