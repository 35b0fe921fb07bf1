-- What an export sends, and what the reply to it says of the bytes.
use Rattle.std.specs.Prelude.{◌≡◌, ◌<◌, ◌≤◌, ℕ, Bool, false, List, [], ◌∷◌, ◌++◌, length, All, Some}
use Rattle.std.specs.List.{list_any}
use Rattle.std.specs.List.Sorted.{IsPermutation}
use Rattle.cell_model.specs.declared.cell.Cell.{Cell}
use Rattle.cell_model.specs.declared.column.Column.{Column}
use Rattle.arrow_spec.specs.Streams.{stream_of}
use Rattle.stream_spec.specs.Streams.{Reads as ReadsAs}
use Rattle.isolation_laws.specs.Inserts.{all_rows}
use Rattle.isolation_spec.specs.Contents.{contents_of, state_at}
use Rattle.workload_spec.specs.declared.command.Command.{Command}
use Rattle.workload_spec.specs.declared.command.Command.TheVariants as command
use Rattle.workload_spec.specs.declared.reply.Said.{Said}
use Rattle.workload_spec.specs.declared.reply.Said.TheVariants as said
use Rattle.workload_spec.specs.declared.script.Script.{Script}
use Rattle.workload_spec.specs.Valid.{all_lines, is_export}
use Rattle.outcome_spec.specs.Entries.{Entry}
use Rattle.outcome_spec.specs.Explained.{run_in}
use Rattle.outcome_spec.specs.Runs.{Run, Span, transaction_of}
use Rattle.outcome_spec.specs.Tables.{columns_at, slots_at}

-- Rows in groups: none is empty, none has more rows than a block has slots, and put together they
-- are these contents, each row once.
pub record AreBatchesOf (slots : ℕ) (contents : List (List Cell)) (groups : List (List (List Cell))) : Type 0 where
  pub filled : All (λ (group : List (List Cell)). 0 < length group) groups
  pub within : All (λ (group : List (List Cell)). length group ≤ slots) groups
  pub each_once : IsPermutation (all_rows groups) contents

-- The bytes are the canonical stream of these rows of a table, so many rows in so many batches, and
-- read as just these.
pub record IsStreamOf (columns : List Column) (slots : ℕ) (contents : List (List Cell)) (rows batches : ℕ) (bytes : List ℕ) : Type 0 where
  pub groups : List (List (List Cell))
  pub stream : bytes ≡ stream_of columns groups
  pub read_back : ReadsAs bytes columns groups
  pub grouped : AreBatchesOf slots contents groups
  pub count : length groups ≡ batches
  pub total : length (all_rows groups) ≡ rows

-- The bytes are a front of a canonical stream of these rows of a table.
pub record IsFrontOf (columns : List Column) (slots : ℕ) (contents : List (List Cell)) (bytes : List ℕ) : Type 0 where
  pub groups : List (List (List Cell))
  pub rest : List ℕ
  pub front : bytes ++ rest ≡ stream_of columns groups
  pub grouped : AreBatchesOf slots contents groups

-- The bytes are a front of a canonical stream of the table's rows at the snapshot of the reply's
-- transaction.
pub record IsFrontAt (run : Run) (entry : Entry) (table : ℕ) (bytes : List ℕ) : Type 0 where
  pub transaction : Span
  pub within : transaction_of run entry ≡ Some transaction
  pub front : IsFrontOf (columns_at run.tables table) (slots_at run.tables table)
      (contents_of table (state_at run.history transaction.snapshot)) bytes

-- What the reply to an export says of the bytes that went out. `export n rows R batches B frozen
-- F`: the canonical stream of the rows of the table after n commits, each once, R in all, in B
-- batches of which none is empty. With refused memory a front of one. With any other reply nothing.
abbrev pub SaysOfExport : Run → Entry → ℕ → Said → List ℕ → Type 0
SaysOfExport run entry table (said.Exported number rows batches frozen) bytes =
    IsStreamOf (columns_at run.tables table) (slots_at run.tables table)
    (contents_of table (state_at run.history number)) rows batches bytes
SaysOfExport run entry table said.Memory bytes = IsFrontAt run entry table bytes
SaysOfExport run entry table (said.At n) bytes = bytes ≡ []
SaysOfExport run entry table said.InTransaction bytes = bytes ≡ []
SaysOfExport run entry table said.NoTransaction bytes = bytes ≡ []
SaysOfExport run entry table (said.Found row) bytes = bytes ≡ []
SaysOfExport run entry table said.Absent bytes = bytes ≡ []
SaysOfExport run entry table (said.Scanned rows) bytes = bytes ≡ []
SaysOfExport run entry table (said.Totalled count sum) bytes = bytes ≡ []
SaysOfExport run entry table said.Accepted bytes = bytes ≡ []
SaysOfExport run entry table (said.ConflictSession session) bytes = bytes ≡ []
SaysOfExport run entry table (said.ConflictCommit n) bytes = bytes ≡ []
SaysOfExport run entry table said.Exists bytes = bytes ≡ []
SaysOfExport run entry table said.Missing bytes = bytes ≡ []
SaysOfExport run entry table (said.Freezing at block stamp) bytes = bytes ≡ []
SaysOfExport run entry table said.Full bytes = bytes ≡ []
SaysOfExport run entry table (said.Committed n) bytes = bytes ≡ []
SaysOfExport run entry table (said.Stale read n) bytes = bytes ≡ []
SaysOfExport run entry table said.Aborted bytes = bytes ≡ []
SaysOfExport run entry table (said.Cooling count) bytes = bytes ≡ []
SaysOfExport run entry table (said.Pruned count) bytes = bytes ≡ []
SaysOfExport run entry table (said.Moved count) bytes = bytes ≡ []
SaysOfExport run entry table (said.Sealed at block stamp) bytes = bytes ≡ []
SaysOfExport run entry table (said.NotSealed cause) bytes = bytes ≡ []
SaysOfExport run entry table (said.Frozen at block rows) bytes = bytes ≡ []
SaysOfExport run entry table said.NotFrozen bytes = bytes ≡ []
SaysOfExport run entry table (said.Dirty key) bytes = bytes ≡ []

-- what a reply says of them: none but the reply to an export says anything
abbrev pub SaysOfBytes : Run → Entry → Command → List ℕ → Type 0
SaysOfBytes run entry (command.Export table) bytes = SaysOfExport run entry table entry.reply.said
    bytes
SaysOfBytes run entry (command.Begin checked) bytes = Unit {0}
SaysOfBytes run entry (command.Get table key) bytes = Unit {0}
SaysOfBytes run entry (command.Scan table) bytes = Unit {0}
SaysOfBytes run entry (command.Range table low high) bytes = Unit {0}
SaysOfBytes run entry (command.Total table column low high) bytes = Unit {0}
SaysOfBytes run entry (command.Insert table row) bytes = Unit {0}
SaysOfBytes run entry (command.Update table row) bytes = Unit {0}
SaysOfBytes run entry (command.Delete table key) bytes = Unit {0}
SaysOfBytes run entry command.Commit bytes = Unit {0}
SaysOfBytes run entry command.Abort bytes = Unit {0}
SaysOfBytes run entry command.Observe bytes = Unit {0}
SaysOfBytes run entry command.Prune bytes = Unit {0}
SaysOfBytes run entry (command.Compact table) bytes = Unit {0}
SaysOfBytes run entry (command.Seal table block) bytes = Unit {0}
SaysOfBytes run entry (command.Gather table block) bytes = Unit {0}

-- each of these replies says what went out
abbrev pub EachSays : Run → List ℕ → List Entry → Type 0
EachSays run bytes [] = Unit {0}
EachSays run bytes (entry ∷ entries) = SaysOfBytes run entry entry.command bytes
    × EachSays run bytes entries

-- a line of the workload exports a table
abbrev pub has_export : Script → Bool
has_export script = list_any (λ line. is_export line.command) (all_lines script)

-- The lines of this output say what was sent, which is nothing where no line of the workload
-- exports a table.
pub record SaysAllSent (script : Script) (output bytes : List ℕ) : Type 0 where
  pub says : EachSays (run_in script output) bytes (run_in script output).entries
  pub quiet : has_export script ≡ false → bytes ≡ []
