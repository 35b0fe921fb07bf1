-- What is counted of the replies of a generated workload, and the lines that tell it.
use Rattle.std.specs.Prelude.{ℕ, Bool, true, false, List, [], ◌∷◌, length, fold, ℤ, pos, ◌+ℤ◌}
use Rattle.std.specs.Prelude.{codes, decimal, slice_get, Option, None, Some, unwrap_or}
use Rattle.std.specs.Fmt.{signed_decimal}
use Rattle.std.specs.List.{list_any}
use Rattle.std.specs.Option.{option_map_or}
use Rattle.cell_model.specs.declared.cell.Cell.{Cell}
use Rattle.cell_model.specs.declared.cell.Cell.TheVariants.{Null, Num, Truth, Text, Blob}
use Rattle.workload_spec.specs.declared.reply.Said.{Said}
use Rattle.workload_spec.specs.declared.reply.Said.TheVariants as said
use Rattle.workload_spec.specs.Words.{spaced, lines_text}
use Rattle.outcome_spec.specs.Entries.{Entry}
use Rattle.outcome_spec.specs.Runs.{commit_count}
use Rattle.bench_spec.specs.declared.counts.Counts.{Counts}

-- the reply says that memory was refused
abbrev pub is_refused : Said → Bool
is_refused (said.At number) = false
is_refused said.InTransaction = false
is_refused said.NoTransaction = false
is_refused (said.Found row) = false
is_refused said.Absent = false
is_refused (said.Scanned rows) = false
is_refused (said.Totalled count sum) = false
is_refused said.Accepted = false
is_refused (said.ConflictSession session) = false
is_refused (said.ConflictCommit number) = false
is_refused said.Exists = false
is_refused said.Missing = false
is_refused said.Full = false
is_refused (said.Freezing table block stamp) = false
is_refused (said.Committed number) = false
is_refused (said.Stale read number) = false
is_refused said.Aborted = false
is_refused (said.Cooling count) = false
is_refused (said.Pruned count) = false
is_refused (said.Moved count) = false
is_refused (said.Sealed table block stamp) = false
is_refused (said.NotSealed cause) = false
is_refused (said.Frozen table block rows) = false
is_refused said.NotFrozen = false
is_refused (said.Exported number rows batches frozen) = false
is_refused (said.Dirty key) = false
is_refused said.Memory = true

-- One of the replies does.
abbrev pub was_refused : List Entry → Bool
was_refused replies = list_any (λ reply. is_refused reply.reply.said) replies

-- the rows that a scan tells, and how many an export does
abbrev pub scanned_in : Said → Option (List (List Cell))
scanned_in (said.At number) = None
scanned_in said.InTransaction = None
scanned_in said.NoTransaction = None
scanned_in (said.Found row) = None
scanned_in said.Absent = None
scanned_in (said.Scanned rows) = Some rows
scanned_in (said.Totalled count sum) = None
scanned_in said.Accepted = None
scanned_in (said.ConflictSession session) = None
scanned_in (said.ConflictCommit number) = None
scanned_in said.Exists = None
scanned_in said.Missing = None
scanned_in said.Full = None
scanned_in (said.Freezing table block stamp) = None
scanned_in (said.Committed number) = None
scanned_in (said.Stale read number) = None
scanned_in said.Aborted = None
scanned_in (said.Cooling count) = None
scanned_in (said.Pruned count) = None
scanned_in (said.Moved count) = None
scanned_in (said.Sealed table block stamp) = None
scanned_in (said.NotSealed cause) = None
scanned_in (said.Frozen table block rows) = None
scanned_in said.NotFrozen = None
scanned_in (said.Exported number rows batches frozen) = None
scanned_in (said.Dirty key) = None
scanned_in said.Memory = None

abbrev pub exported_in : Said → Option ℕ
exported_in (said.At number) = None
exported_in said.InTransaction = None
exported_in said.NoTransaction = None
exported_in (said.Found row) = None
exported_in said.Absent = None
exported_in (said.Scanned rows) = None
exported_in (said.Totalled count sum) = None
exported_in said.Accepted = None
exported_in (said.ConflictSession session) = None
exported_in (said.ConflictCommit number) = None
exported_in said.Exists = None
exported_in said.Missing = None
exported_in said.Full = None
exported_in (said.Freezing table block stamp) = None
exported_in (said.Committed number) = None
exported_in (said.Stale read number) = None
exported_in said.Aborted = None
exported_in (said.Cooling count) = None
exported_in (said.Pruned count) = None
exported_in (said.Moved count) = None
exported_in (said.Sealed table block stamp) = None
exported_in (said.NotSealed cause) = None
exported_in (said.Frozen table block rows) = None
exported_in said.NotFrozen = None
exported_in (said.Exported number rows batches frozen) = Some rows
exported_in (said.Dirty key) = None
exported_in said.Memory = None

-- what the first reply tells that tells it
abbrev pub first_told : {X : Type 0} → (Said → Option X) → List Entry → Option X
first_told told [] = None
first_told told (reply ∷ replies) = elim (told reply.reply.said)
    [ Some value ↦ Some value | None ↦ first_told told replies ]

-- the rows of the scan
abbrev pub scanned : List Entry → List (List Cell)
scanned replies = unwrap_or (first_told scanned_in replies) []

-- how many rows the export tells
abbrev pub exported : List Entry → ℕ
exported replies = unwrap_or (first_told exported_in replies) 0

-- a cell's number
abbrev pub cell_number : Cell → ℤ
cell_number (Num number) = number
cell_number Null = pos 0
cell_number (Truth truth) = pos 0
cell_number (Text text) = pos 0
cell_number (Blob bytes) = pos 0

-- the number of a row, which stands behind its key
abbrev pub row_number : List Cell → ℤ
row_number row = option_map_or cell_number (slice_get row 1) (pos 0)

-- the sum of the numbers of rows
abbrev pub sum_of : List (List Cell) → ℤ
sum_of rows = fold (λ sum row. sum +ℤ row_number row) (pos 0) rows

-- What is counted of replies: how many commits show a number, how many rows the scan tells, the sum
-- of their numbers, and how many rows the export tells.
abbrev pub counted : List Entry → Counts
counted replies = record {
  commits = commit_count replies;
  rows = length (scanned replies);
  sum = sum_of (scanned replies);
  exported = exported replies;
}

-- The lines that tell it.
abbrev pub counts_text : Counts → List ℕ
counts_text counts = lines_text (
    spaced (codes "commits" ∷ decimal counts.commits ∷ [])
    ∷ spaced (codes "rows" ∷ decimal counts.rows ∷ [])
    ∷ spaced (codes "sum" ∷ signed_decimal counts.sum ∷ [])
    ∷ spaced (codes "exported" ∷ decimal counts.exported ∷ []) ∷ [])
