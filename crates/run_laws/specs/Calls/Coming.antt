-- The machine takes a line of a session when its call's last event is made.
use Rattle.std.specs.Prelude.{◌≡◌, ℕ, Bool, true, false, List, [], ◌∷◌, IfSome, Some}
use Rattle.core_laws.specs.Events.Laws.{IsStep, command_in}
use Rattle.event_spec.specs.Parts.{Shape}
use Rattle.event_spec.specs.Lawful.{reads_handed}
use Rattle.isolation_spec.specs.Machine.{IsolationMachine, transaction_of}
use Rattle.timeline_spec.specs.Timeline.{Answers, request_of}
use Rattle.workload_spec.specs.declared.command.Command.{Command}
use Rattle.workload_spec.specs.declared.command.Command.TheVariants as command
use Rattle.workload_spec.specs.declared.reply.Said.{Said}
use Rattle.workload_spec.specs.declared.reply.Who.TheVariants.{Session}
use Rattle.run_spec.specs.Calls.{Call, IsCall}
use Rattle.run_spec.specs.Occurrences.{Occurrence}
use Rattle.run_spec.specs.Opened.{own_after}
use Rattle.run_laws.specs.Calls.Open.{OpenAs}

-- the commands that ask the machine by one event, behind a thaw where they need one
abbrev pub is_single : Command → Bool
is_single (command.Begin checked) = true
is_single (command.Get table key) = true
is_single (command.Scan table) = false
is_single (command.Range table low high) = true
is_single (command.Total table column low high) = false
is_single (command.Insert table row) = true
is_single (command.Update table row) = true
is_single (command.Delete table key) = true
is_single command.Commit = true
is_single command.Abort = true
is_single command.Observe = false
is_single command.Prune = false
is_single (command.Compact table) = false
is_single (command.Seal table block) = false
is_single (command.Gather table block) = false
is_single (command.Export table) = false

-- The machine at the last of some events, and behind it; at a moment of none it stays.
abbrev pub EndsAt : List Occurrence → IsolationMachine → IsolationMachine → Type 0
EndsAt [] machine next = next ≡ machine
EndsAt (last ∷ []) machine next = IsStep (command_in last.event) (reads_handed last.event)
    machine last.reply next
EndsAt (first ∷ second ∷ rest) machine next = EndsAt (second ∷ rest) machine next

-- What a session is told of such a command, refused, carried out or cut short, the machine answers
-- at the call's last event; without an event at any moment at which the session has open what it
-- had.
abbrev pub LinesComeAbout : Type 0
LinesComeAbout = (shape : Shape) (session : ℕ) (front : List Occurrence) (call : Call) (line : Said)
    (machine next : IsolationMachine)
    → is_single call.command ≡ true
    → IsCall shape false session front call
    → call.told ≡ Some line
    → OpenAs session (own_after front) (transaction_of session machine)
    → EndsAt call.made machine next
    → IfSome
    (request_of (Session session) call.command)
    (λ request. Answers machine call.reads request line next)
