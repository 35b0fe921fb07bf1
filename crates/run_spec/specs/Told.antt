-- The line that is made of the replies to a command's events. One table lists it for all commands.
use Rattle.std.specs.Prelude.{ℕ, ℤ, Bool, true, false, List, [], ◌∷◌, count_by, sum_by}
use Rattle.std.specs.Prelude.{length, Option, None, Some, is_none, option_map, option_and_then}
use Rattle.std.specs.Prelude.{if◌then◌else◌}
use Rattle.std.specs.List.{flat_map, last_or}
use Rattle.block_spec.specs.declared.phase.SealFault.{SealFault}
use Rattle.block_spec.specs.declared.phase.SealFault.TheVariants as fault
use Rattle.block_spec.specs.Slots.{Row}
use Rattle.event_spec.specs.declared.own.OwnTransaction.{OwnTransaction}
use Rattle.event_spec.specs.declared.reply.Reply.TheVariants as reply
use Rattle.event_spec.specs.declared.reply.WriteFault.{WriteFault}
use Rattle.event_spec.specs.declared.reply.WriteFault.TheVariants as refusal
use Rattle.event_spec.specs.Replies.{CoreReply}
pub use Rattle.event_spec.specs.Replies.{by_place, in_key_order}
use Rattle.isolation_spec.specs.Contents.{numbers_between, sum_of}
pub use Rattle.timeline_spec.specs.Timeline.{stale_of}
use Rattle.workload_spec.specs.declared.command.Command.{Command}
use Rattle.workload_spec.specs.declared.command.Command.TheVariants as command
use Rattle.workload_spec.specs.declared.reply.Said.{Said}
use Rattle.workload_spec.specs.declared.reply.Said.TheVariants as said
use Rattle.workload_spec.specs.declared.reply.SealCause.{SealCause}
use Rattle.workload_spec.specs.declared.reply.SealCause.TheVariants as cause
use Rattle.run_spec.specs.Opened.{least_written}

-- ---- lines without an event

-- a command that needs a transaction is refused where there is none
abbrev pub unless_open : Option OwnTransaction → Option Said
unless_open own = if is_none own then Some said.NoTransaction else None

-- an export is refused besides where the transaction wrote the table
abbrev pub unless_clean : ℕ → Option OwnTransaction → Option Said
unless_clean table None = Some said.NoTransaction
unless_clean table (Some own) = option_map said.Dirty (least_written table own)

-- Why a command is refused before it makes an event, by what its session has open.
abbrev pub refusal_of : Command → Option OwnTransaction → Option Said
refusal_of (command.Begin checked) own = if is_none own then None else Some said.InTransaction
refusal_of (command.Get table key) own = unless_open own
refusal_of (command.Scan table) own = unless_open own
refusal_of (command.Range table low high) own = unless_open own
refusal_of (command.Total table column low high) own = unless_open own
refusal_of (command.Insert table row) own = unless_open own
refusal_of (command.Update table row) own = unless_open own
refusal_of (command.Delete table key) own = unless_open own
refusal_of command.Commit own = unless_open own
refusal_of command.Abort own = unless_open own
refusal_of command.Observe own = None
refusal_of command.Prune own = None
refusal_of (command.Compact table) own = None
refusal_of (command.Seal table block) own = None
refusal_of (command.Gather table block) own = None
refusal_of (command.Export table) own = unless_clean table own

-- ---- what one reply says

abbrev pub fault_told : ℕ → WriteFault → Said
fault_told table (refusal.ConflictSession session) = said.ConflictSession session
fault_told table (refusal.ConflictCommit number) = said.ConflictCommit number
fault_told table refusal.Exists = said.Exists
fault_told table refusal.Missing = said.Missing
fault_told table (refusal.Freezing block stamp) = said.Freezing table block stamp
fault_told table (refusal.Full inserts) = said.Full

abbrev pub cause_told : SealFault → SealCause
cause_told fault.Phase = cause.Phase
cause_told fault.Head = cause.Head
cause_told fault.Empty = cause.Empty
cause_told fault.Gaps = cause.Gaps
cause_told fault.Versions = cause.Versions
cause_told fault.Hot = cause.Hot
cause_told fault.Last = cause.Last

abbrev pub row_told : Option Row → Said
row_told None = said.Absent
row_told (Some row) = said.Found row

-- What a reply says by itself, to a command of this table and block. Rows that were read, and a
-- block's count, look or move, are a part of what the command's line says, and an `oldest` and a
-- thaw are in no line.
abbrev pub told_by : ℕ → ℕ → CoreReply → Option Said
told_by table block (reply.Begun snapshot) = Some (said.At snapshot.number)
told_by table block (reply.Found row) = Some (row_told row)
told_by table block (reply.Written slot) = Some said.Accepted
told_by table block (reply.Refused refused) = Some (fault_told table refused)
told_by table block (reply.Rows rows) = None
told_by table block (reply.Shared rows) = None
told_by table block (reply.Committed number) = Some (said.Committed number)
told_by table block (reply.Stale what number) = Some (said.Stale (stale_of what) number)
told_by table block reply.Aborted = Some said.Aborted
told_by table block (reply.Oldest oldest) = None
told_by table block (reply.Turned turned) = None
told_by table block (reply.Dropped count) = None
told_by table block (reply.Looked look) = None
told_by table block (reply.Moved count) = None
told_by table block (reply.Sealed stamp) = Some (said.Sealed table block stamp)
told_by table block (reply.NotSealed because) = Some (said.NotSealed (cause_told because))
told_by table block (reply.Imaged rows) = Some (said.Frozen table block rows)
told_by table block reply.NoSeal = Some said.NotFrozen
told_by table block reply.Thawed = None
told_by table block reply.Memory = Some said.Memory

-- what the last reply says
abbrev pub last_told : ℕ → ℕ → List CoreReply → Option Said
last_told table block replies = option_and_then (told_by table block) (last_or None replies)

-- ---- what replies say together

-- the rows of a read or a range, and whether the block was imaged at its read
abbrev pub rows_told : CoreReply → List Row
rows_told (reply.Rows rows) = rows
rows_told (reply.Shared rows) = rows
rows_told _ = []

abbrev pub is_shared : CoreReply → Bool
is_shared (reply.Shared rows) = true
is_shared _ = false

abbrev pub is_some_row : List Row → Bool
is_some_row [] = false
is_some_row (row ∷ rows) = true

-- whether a block turned cooling, how many versions were dropped, and how many rows were moved
abbrev pub is_turned : CoreReply → Bool
is_turned (reply.Turned turned) = turned
is_turned _ = false

abbrev pub dropped_told : CoreReply → ℕ
dropped_told (reply.Dropped count) = count
dropped_told _ = 0

abbrev pub moved_told : CoreReply → ℕ
moved_told (reply.Moved count) = count
moved_told _ = 0

-- how many numbers there are, and their sum
abbrev pub total_told : List ℤ → Said
total_told numbers = said.Totalled (length numbers) (sum_of numbers)

-- An export's summary: the snapshot, the rows, the blocks with a row, and the blocks that were
-- imaged at their read.
abbrev pub summary_of : OwnTransaction → List CoreReply → Said
summary_of own replies = said.Exported
    own.snapshot.number
    (length (flat_map rows_told replies))
    (count_by (λ told. is_some_row (rows_told told)) replies)
    (count_by is_shared replies)

-- ---- the table

-- The line of a command to which all its events were made, with these replies.
abbrev pub line_of : Option OwnTransaction → Command → List CoreReply → Option Said
line_of own (command.Begin checked) replies = last_told 0 0 replies
line_of own (command.Get table key) replies = last_told table 0 replies
line_of own (command.Scan table) replies =
    Some (said.Scanned (in_key_order table (flat_map rows_told replies)))
line_of own (command.Range table low high) replies =
    Some (said.Scanned (in_key_order table (flat_map rows_told replies)))
line_of own (command.Total table column low high) replies =
    Some (total_told (numbers_between column low high (flat_map rows_told replies)))
line_of own (command.Insert table row) replies = last_told table 0 replies
line_of own (command.Update table row) replies = last_told table 0 replies
line_of own (command.Delete table key) replies = last_told table 0 replies
line_of own command.Commit replies = last_told 0 0 replies
line_of own command.Abort replies = last_told 0 0 replies
line_of own command.Observe replies = Some (said.Cooling (count_by is_turned replies))
line_of own command.Prune replies = Some (said.Pruned (sum_by dropped_told replies))
line_of own (command.Compact table) replies = Some (said.Moved (sum_by moved_told replies))
line_of own (command.Seal table block) replies = last_told table block replies
line_of own (command.Gather table block) replies = last_told table block replies
line_of own (command.Export table) replies = option_map (λ t. summary_of t replies) own
