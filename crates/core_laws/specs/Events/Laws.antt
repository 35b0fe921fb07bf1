-- What each event is to the snapshot-isolation machine.
use Rattle.std.specs.Prelude.{◌≡◌, ℕ, ℤ, false, List, Option, None, Some, IsSomeAnd, length}
use Rattle.block_spec.specs.Slots.{Row}
use Rattle.core_laws.specs.Events.Named.{FollowsMachine}
use Rattle.event_spec.specs.declared.event.Event.TheVariants as event
use Rattle.event_spec.specs.declared.reply.Reply.TheVariants as reply
use Rattle.event_spec.specs.declared.reply.WriteFault.{WriteFault}
use Rattle.event_spec.specs.declared.reply.WriteFault.TheVariants as fault
use Rattle.event_spec.specs.Effects.{CoreEvent, effect}
use Rattle.event_spec.specs.declared.own.OwnTransaction.{OwnTransaction}
use Rattle.event_spec.specs.Lawful.{IsLawful, OwnsAll, reads_handed}
use Rattle.event_spec.specs.Parts.{Parts, Shape, desk_at, places_at, slot_at}
use Rattle.event_spec.specs.Replies.{CoreReply, in_key_order, reply_to}
use Rattle.event_spec.specs.Sound.{Sound, IsShape}
use Rattle.core_laws.specs.Following.Laws.{command_of}
use Rattle.core_laws.specs.Following.Owned.{HasOpen, OwnSlot}
use Rattle.isolation_spec.specs.Contents.{at_place, place_at}
use Rattle.isolation_spec.specs.declared.command.Act.{Act}
use Rattle.isolation_spec.specs.declared.command.Act.TheVariants as act
use Rattle.isolation_spec.specs.declared.command.Answer.TheVariants as answer
use Rattle.isolation_spec.specs.declared.command.Command.{Command}
use Rattle.isolation_spec.specs.Machine.{IsolationMachine}
use Rattle.isolation_spec.specs.Reads.{ReadSet}
use Rattle.isolation_spec.specs.Store.{Outcome, Allows}
use Rattle.isolation_spec.specs.Store as store

-- ---- the machine's words

-- what a write's fault is to a store over the machine
abbrev pub outcome_of_fault : WriteFault → Outcome
outcome_of_fault (fault.ConflictSession session) = store.Answered (answer.ConflictSession session)
outcome_of_fault (fault.ConflictCommit number) = store.Answered (answer.ConflictCommit number)
outcome_of_fault fault.Exists = store.Answered answer.Exists
outcome_of_fault fault.Missing = store.Answered answer.Missing
outcome_of_fault (fault.Freezing block stamp) = store.Freezing
outcome_of_fault (fault.Full inserts) = store.Full

-- What the rows of a reply are to a store over the machine: those of a range its answer, in the order
-- of their keys. A scan and a total are made of many reads.
abbrev pub rows_answered : Act → List Row → Option Outcome
rows_answered (act.Range table low high) rows =
    Some (store.Answered (answer.Rows (in_key_order table rows)))
rows_answered (act.Begin checked) rows = None
rows_answered (act.Get table key) rows = None
rows_answered (act.Scan table) rows = None
rows_answered (act.Total table column low high) rows = None
rows_answered (act.Insert table row) rows = None
rows_answered (act.Update table row) rows = None
rows_answered (act.Delete table key) rows = None
rows_answered act.Commit rows = None
rows_answered act.Abort rows = None

-- What a reply to a session's command is to a store over the machine. A reply to any other event is
-- nothing to it.
abbrev pub outcome_of : Act → CoreReply → Option Outcome
outcome_of what (reply.Begun snapshot) = Some (store.Answered (answer.At snapshot.number))
outcome_of what (reply.Found row) = Some (store.Answered (answer.Found row))
outcome_of what (reply.Written place) = Some (store.Answered answer.Accepted)
outcome_of what (reply.Refused refusal) = Some (outcome_of_fault refusal)
outcome_of what (reply.Rows rows) = rows_answered what rows
outcome_of what (reply.Shared rows) = None
outcome_of what (reply.Committed number) = Some (store.Answered (answer.Committed number))
outcome_of what (reply.Stale read number) = Some (store.Answered (answer.Stale read number))
outcome_of what reply.Aborted = Some (store.Answered answer.Aborted)
outcome_of what (reply.Oldest oldest) = None
outcome_of what (reply.Turned turned) = None
outcome_of what (reply.Dropped count) = None
outcome_of what (reply.Looked look) = None
outcome_of what (reply.Moved count) = None
outcome_of what (reply.Sealed stamp) = None
outcome_of what (reply.NotSealed cause) = None
outcome_of what (reply.Imaged rows) = None
outcome_of what reply.NoSeal = None
outcome_of what reply.Thawed = None
outcome_of what reply.Memory = Some store.Memory

-- The command that an event is to the machine, to which it is all one whether a transaction that
-- begins is checked. A read of one block is none, nor is upkeep.
abbrev pub command_in : CoreEvent → Option Command
command_in (event.Begin session) = Some (command_of session (act.Begin false))
command_in (event.Get own table key) = Some (command_of own.session (act.Get table key))
command_in (event.Insert own table row) = Some (command_of own.session (act.Insert table row))
command_in (event.Update own table row) = Some (command_of own.session (act.Update table row))
command_in (event.Delete own table key) = Some (command_of own.session (act.Delete table key))
command_in (event.Read own table block) = None
command_in (event.Range own table low high) =
    Some (command_of own.session (act.Range table low high))
command_in (event.Commit own reads) = Some (command_of own.session act.Commit)
command_in (event.Abort own) = Some (command_of own.session act.Abort)
command_in event.Oldest = None
command_in (event.Observe table block) = None
command_in (event.Prune table block oldest) = None
command_in (event.Look table block) = None
command_in (event.Move table moves) = None
command_in (event.Seal table block) = None
command_in (event.Image table block image) = None
command_in (event.Thaw table block) = None

-- ---- what an event is to the machine

-- A reply to a command, with which these reads are handed in, is one that a store over the machine
-- may give, which leaves the machine like this.
abbrev pub IsTold : IsolationMachine → Option ReadSet → Command → CoreReply → IsolationMachine
    → Type 0
IsTold machine reads command said next = IsSomeAnd (outcome_of command.act said)
    (λ outcome. Allows machine reads command outcome next)

-- A command's event is answered by the machine, and any other leaves it as it is.
abbrev pub IsStep : Option Command → Option ReadSet → IsolationMachine → CoreReply
    → IsolationMachine → Type 0
IsStep None reads machine said next = next ≡ machine
IsStep (Some command) reads machine said next = IsTold machine reads command said next

-- The event answers a command as the machine may, and the parts after it follow the machine after
-- it.
abbrev pub Serves : Shape → Parts → CoreEvent → Command → Type 0
Serves shape parts event command = (machine : IsolationMachine) → FollowsMachine shape parts machine
    → (next : IsolationMachine)
    × IsTold machine (reads_handed event) command (reply_to shape parts event) next
    × FollowsMachine shape (effect shape parts event) next

-- An event keeps how many parts there are.
abbrev pub KeepsRoom : Type 0
KeepsRoom = (shape : Shape) (event : CoreEvent) (parts : Parts) → length (effect shape parts event)
    ≡ length parts

-- A lawful event of a sound state is answered as the machine may, and the parts after it follow the
-- machine after it.
abbrev pub Steps : Type 0
Steps = (shape : Shape) (parts : Parts) (event : CoreEvent) → IsShape shape → Sound shape parts
    → IsLawful shape event parts
    → (machine : IsolationMachine) → FollowsMachine shape parts machine
    → (next : IsolationMachine)
    × IsStep (command_in event) (reads_handed event) machine (reply_to shape parts event) next
    × FollowsMachine shape (effect shape parts event) next

-- In a sound state the transaction that an event is handed has the slots on which its session's
-- entries stand.
pub record IsHandedIn (shape : Shape) (parts : Parts) (own : OwnTransaction) : Type 0 where
  pub is_open : HasOpen (desk_at shape parts) own.session own.snapshot
  pub slots : (table : ℕ) (key : ℤ)
      → OwnSlot (slot_at shape parts) (places_at shape parts) own.session table key
      (at_place own.writes (place_at table key))

abbrev pub HandsInWhatIsWritten : Type 0
HandsInWhatIsWritten = (shape : Shape) (parts : Parts) (own : OwnTransaction) → Sound shape parts
    → OwnsAll shape own parts
    → IsHandedIn shape parts own
