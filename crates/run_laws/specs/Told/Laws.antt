-- What a call tells at its last event.
use Rattle.std.specs.Prelude.{◌≡◌, ◌⊎◌, ℕ, Bool, true, false, List, [], ◌∷◌, ◌++◌, Option, Some}
use Rattle.std.specs.Prelude.{sum_by}
use Rattle.event_spec.specs.declared.event.Event.TheVariants as event
use Rattle.event_spec.specs.declared.reply.Reply.TheVariants as reply
use Rattle.event_spec.specs.Effects.{CoreEvent}
use Rattle.event_spec.specs.Parts.{Shape}
use Rattle.event_spec.specs.Plans.{plan_of}
use Rattle.event_spec.specs.Replies.{CoreReply}
use Rattle.workload_spec.specs.declared.command.Command.{Command}
use Rattle.workload_spec.specs.declared.command.Command.TheVariants as command
use Rattle.workload_spec.specs.declared.reply.Said.{Said}
use Rattle.workload_spec.specs.declared.reply.Said.TheVariants as said
use Rattle.run_spec.specs.Asked.{looks_in}
use Rattle.run_spec.specs.Calls.{Call, IsCall, line_to}
use Rattle.run_spec.specs.Occurrences.{Occurrence, replies_in}
use Rattle.run_spec.specs.Told.{dropped_told, moved_told, told_by}
use Rattle.run_laws.specs.Calls.Upkeep.{AreReplied}

-- ---- events and lines that nothing is counted by

-- the event opens and ends no transaction, writes, moves, seals and images nothing
abbrev pub is_quiet : CoreEvent → Bool
is_quiet (event.Begin session) = false
is_quiet (event.Get own table key) = true
is_quiet (event.Insert own table row) = false
is_quiet (event.Update own table row) = false
is_quiet (event.Delete own table key) = false
is_quiet (event.Read own table block) = true
is_quiet (event.Range own table low high) = true
is_quiet (event.Commit own reads) = false
is_quiet (event.Abort own) = false
is_quiet event.Oldest = true
is_quiet (event.Observe table block) = true
is_quiet (event.Prune table block oldest) = true
is_quiet (event.Look table block) = true
is_quiet (event.Move table moves) = false
is_quiet (event.Seal table block) = false
is_quiet (event.Image table block image) = false
is_quiet (event.Thaw table block) = true

-- the line tells of no such thing, of no pruning, and not how full or how frozen a table is
abbrev pub is_plain : Said → Bool
is_plain (said.At number) = false
is_plain said.InTransaction = true
is_plain said.NoTransaction = true
is_plain (said.Found row) = true
is_plain said.Absent = true
is_plain (said.Scanned rows) = true
is_plain (said.Totalled count sum) = true
is_plain said.Accepted = false
is_plain (said.ConflictSession session) = true
is_plain (said.ConflictCommit number) = true
is_plain said.Exists = true
is_plain said.Missing = true
is_plain (said.Freezing table block stamp) = false
is_plain said.Full = false
is_plain (said.Committed number) = false
is_plain (said.Stale what number) = true
is_plain said.Aborted = false
is_plain (said.Cooling count) = true
is_plain (said.Pruned count) = false
is_plain (said.Moved count) = false
is_plain (said.Sealed table block stamp) = false
is_plain (said.NotSealed cause) = false
is_plain (said.Frozen table block rows) = false
is_plain said.NotFrozen = false
is_plain (said.Exported number rows batches frozen) = true
is_plain (said.Dirty key) = true
is_plain said.Memory = true

-- ---- what is told

-- a line of which nothing is counted but a pruning
abbrev pub TellsQuietly : Command → List Occurrence → Option Said → Type 0
TellsQuietly asked made told = (line : Said)
    × (told ≡ Some line)
    × ((is_plain line ≡ true)
    ⊎ (line ≡ said.Moved 0)
    ⊎ ((asked ≡ command.Prune) × (line ≡ said.Pruned (sum_by dropped_told (replies_in made)))))

-- a move's line counts the pairs that held, unless it was refused memory
abbrev pub TellsMove : CoreReply → Option Said → Type 0
TellsMove told line =
    ((told ≡ reply.Memory) × (line ≡ Some said.Memory))
    ⊎ (line ≡ Some (said.Moved (moved_told told)))

-- The line of a call that ends with this event, which was replied so.
abbrev pub TellsAt
    : Bool → List Occurrence → CoreEvent → CoreReply → Command → Option Said → Type 0
TellsAt worker made (event.Begin session) told asked line =
    ((checked : Bool) × (asked ≡ command.Begin checked))
    × (line ≡ line_to worker (told_by 0 0 told))
TellsAt worker made (event.Get own table key) told asked line = TellsQuietly asked made line
TellsAt worker made (event.Insert own table row) told asked line =
    (asked ≡ command.Insert table row) × (line ≡ line_to worker (told_by table 0 told))
TellsAt worker made (event.Update own table row) told asked line =
    (asked ≡ command.Update table row) × (line ≡ line_to worker (told_by table 0 told))
TellsAt worker made (event.Delete own table key) told asked line =
    (asked ≡ command.Delete table key) × (line ≡ line_to worker (told_by table 0 told))
TellsAt worker made (event.Read own table block) told asked line = TellsQuietly asked made line
TellsAt worker made (event.Range own table low high) told asked line = TellsQuietly asked made line
TellsAt worker made (event.Commit own reads) told asked line =
    (asked ≡ command.Commit) × (line ≡ line_to worker (told_by 0 0 told))
TellsAt worker made (event.Abort own) told asked line =
    (asked ≡ command.Abort) × (line ≡ line_to worker (told_by 0 0 told))
TellsAt worker made event.Oldest told asked line = TellsQuietly asked made line
TellsAt worker made (event.Observe table block) told asked line = TellsQuietly asked made line
TellsAt worker made (event.Prune table block oldest) told asked line = TellsQuietly asked made line
TellsAt worker made (event.Look table block) told asked line = TellsQuietly asked made line
TellsAt worker made (event.Move table moves) told asked line =
    (asked ≡ command.Compact table) × (moves ≡ plan_of (looks_in made)) × TellsMove told line
TellsAt worker made (event.Seal table block) told asked line =
    (asked ≡ command.Seal table block) × (line ≡ line_to worker (told_by table block told))
TellsAt worker made (event.Image table block image) told asked line =
    (asked ≡ command.Gather table block) × (line ≡ line_to worker (told_by table block told))
TellsAt worker made (event.Thaw table block) told asked line = TellsQuietly asked made line

-- ---- the laws

-- An event that another of its call follows is quiet.
abbrev pub CallsGoOnQuietly : Type 0
CallsGoOnQuietly = (shape : Shape) (worker : Bool) (session : ℕ)
    (front : List Occurrence) (call : Call)
    (done : List Occurrence) (made next : Occurrence) (rest : List Occurrence)
    → IsCall shape worker session front call
    → call.made ≡ done ++ made ∷ next ∷ rest
    → is_quiet made.event ≡ true

-- A call's line is told at its last event.
abbrev pub LastEventsAreTold : Type 0
LastEventsAreTold = (shape : Shape) (worker : Bool) (session : ℕ)
    (front : List Occurrence) (call : Call) (done : List Occurrence) (made : Occurrence)
    → IsCall shape worker session front call
    → AreReplied shape call.made
    → call.made ≡ done ++ made ∷ []
    → TellsAt worker call.made made.event made.reply call.command call.told

-- A call without an event tells nothing that counts.
abbrev pub RefusalsArePlain : Type 0
RefusalsArePlain = (shape : Shape) (worker : Bool) (session : ℕ)
    (front : List Occurrence) (call : Call)
    → IsCall shape worker session front call
    → call.made ≡ []
    → (line : Said) × (call.told ≡ Some line) × ((is_plain line ≡ true) ⊎ (line ≡ said.Moved 0))
