-- What reads and writes are answered: what snapshot isolation gives at the transaction's snapshot,
-- with its own writes laid over it.
use Rattle.std.specs.Prelude.{ℕ, Bool, true, false, not, List, Option, None, Some, is_some, is_none}
use Rattle.std.specs.Prelude.{bytes_eq, ℤ, ◌&&◌, ◌==◌, length}
use Rattle.std.specs.Bool.{beq}
use Rattle.std.specs.Cmp.Lexicographic.{pointwise}
use Rattle.std.specs.Option.{option_map_or}
use Rattle.std.specs.Ordering.{int_eq}
use Rattle.cell_model.specs.declared.cell.Cell.{Cell}
use Rattle.cell_model.specs.declared.cell.Cell.TheVariants.{Null, Num, Truth, Text, Blob}
use Rattle.isolation_spec.specs.Contents.{State, at_place, contents_of, place_at, place_of}
use Rattle.isolation_spec.specs.Contents.{contents_between, numbers_between, sum_of}
use Rattle.isolation_spec.specs.declared.place.Place.{Place}
use Rattle.workload_spec.specs.declared.command.Command.{Command}
use Rattle.workload_spec.specs.declared.command.Command.TheVariants as command
use Rattle.workload_spec.specs.declared.reply.Said.{Said}
use Rattle.workload_spec.specs.declared.reply.Said.TheVariants as said
use Rattle.outcome_spec.specs.Entries.{Entry}
use Rattle.outcome_spec.specs.Runs.{Run, transaction_of, seen_at}

-- the two are one cell, one row
abbrev pub is_cell : Cell → Cell → Bool
is_cell Null Null = true
is_cell Null (Num b) = false
is_cell Null (Truth b) = false
is_cell Null (Text b) = false
is_cell Null (Blob b) = false
is_cell (Num a) Null = false
is_cell (Num a) (Num b) = int_eq a b
is_cell (Num a) (Truth b) = false
is_cell (Num a) (Text b) = false
is_cell (Num a) (Blob b) = false
is_cell (Truth a) Null = false
is_cell (Truth a) (Num b) = false
is_cell (Truth a) (Truth b) = beq a b
is_cell (Truth a) (Text b) = false
is_cell (Truth a) (Blob b) = false
is_cell (Text a) Null = false
is_cell (Text a) (Num b) = false
is_cell (Text a) (Truth b) = false
is_cell (Text a) (Text b) = bytes_eq a b
is_cell (Text a) (Blob b) = false
is_cell (Blob a) Null = false
is_cell (Blob a) (Num b) = false
is_cell (Blob a) (Truth b) = false
is_cell (Blob a) (Text b) = false
is_cell (Blob a) (Blob b) = bytes_eq a b

abbrev pub is_row : List Cell → List Cell → Bool
is_row a b = pointwise is_cell a b

-- the place that a get asks for
abbrev pub got_place : Command → Option Place
got_place (command.Get table key) = Some (place_at table key)
got_place (command.Begin checked) = None
got_place (command.Scan table) = None
got_place (command.Range table low high) = None
got_place (command.Total table column low high) = None
got_place (command.Insert table row) = None
got_place (command.Update table row) = None
got_place (command.Delete table key) = None
got_place command.Commit = None
got_place command.Abort = None
got_place command.Observe = None
got_place command.Prune = None
got_place (command.Compact table) = None
got_place (command.Seal table block) = None
got_place (command.Gather table block) = None
got_place (command.Export table) = None

-- the rows that a scan or a range asks for, of those that are seen
abbrev pub rows_asked : State → Command → Option (List (List Cell))
rows_asked seen (command.Scan table) = Some (contents_of table seen)
rows_asked seen (command.Range table low high) = Some
    (contents_between table low high seen)
rows_asked seen (command.Begin checked) = None
rows_asked seen (command.Get table key) = None
rows_asked seen (command.Total table column low high) = None
rows_asked seen (command.Insert table row) = None
rows_asked seen (command.Update table row) = None
rows_asked seen (command.Delete table key) = None
rows_asked seen command.Commit = None
rows_asked seen command.Abort = None
rows_asked seen command.Observe = None
rows_asked seen command.Prune = None
rows_asked seen (command.Compact table) = None
rows_asked seen (command.Seal table block) = None
rows_asked seen (command.Gather table block) = None
rows_asked seen (command.Export table) = None

-- the numbers that a total asks for, of the rows that are seen
abbrev pub numbers_asked : State → Command → Option (List ℤ)
numbers_asked seen (command.Total table column low high) = Some
    (numbers_between column low high (contents_of table seen))
numbers_asked seen (command.Begin checked) = None
numbers_asked seen (command.Get table key) = None
numbers_asked seen (command.Scan table) = None
numbers_asked seen (command.Range table low high) = None
numbers_asked seen (command.Insert table row) = None
numbers_asked seen (command.Update table row) = None
numbers_asked seen (command.Delete table key) = None
numbers_asked seen command.Commit = None
numbers_asked seen command.Abort = None
numbers_asked seen command.Observe = None
numbers_asked seen command.Prune = None
numbers_asked seen (command.Compact table) = None
numbers_asked seen (command.Seal table block) = None
numbers_asked seen (command.Gather table block) = None
numbers_asked seen (command.Export table) = None

-- there are so many of these numbers, and this is their sum
abbrev pub is_total_of : ℕ → ℤ → List ℤ → Bool
is_total_of count sum numbers = count == length numbers && int_eq sum (sum_of numbers)

-- What a read shows of the rows that are seen: a get the row of its key or that there is none; a
-- scan all rows of its table in the order of their keys, a range those between its keys; a total
-- how many numbers of its column lie between its two, and their sum.
abbrev pub read_holds : State → Command → Said → Bool
read_holds seen asked (said.At number) = true
read_holds seen asked (said.Stale read number) = true
read_holds seen asked (said.Totalled count sum) = option_map_or (is_total_of count sum)
    (numbers_asked seen asked) true
read_holds seen asked said.InTransaction = true
read_holds seen asked said.NoTransaction = true
read_holds seen asked (said.Found row) = option_map_or
    (λ place. option_map_or (is_row row) (at_place seen place) false) (got_place asked) true
read_holds seen asked said.Absent = option_map_or (λ place. is_none (at_place seen place))
    (got_place asked) true
read_holds seen asked (said.Scanned rows) = option_map_or
    (λ seen_rows. pointwise is_row rows seen_rows) (rows_asked seen asked) true
read_holds seen asked said.Accepted = true
read_holds seen asked (said.ConflictSession session) = true
read_holds seen asked (said.ConflictCommit number) = true
read_holds seen asked said.Exists = true
read_holds seen asked said.Missing = true
read_holds seen asked said.Full = true
read_holds seen asked (said.Freezing table block stamp) = true
read_holds seen asked (said.Committed number) = true
read_holds seen asked said.Aborted = true
read_holds seen asked (said.Cooling count) = true
read_holds seen asked (said.Pruned count) = true
read_holds seen asked (said.Moved count) = true
read_holds seen asked (said.Sealed table block stamp) = true
read_holds seen asked (said.NotSealed cause) = true
read_holds seen asked (said.Frozen table block rows) = true
read_holds seen asked said.NotFrozen = true
read_holds seen asked (said.Exported number rows batches frozen) = true
read_holds seen asked (said.Dirty key) = true
read_holds seen asked said.Memory = true

-- Reads.
abbrev pub reads_hold : Run → Entry → Bool
reads_hold run entry = option_map_or
    (λ t. read_holds (seen_at run t entry) entry.command entry.reply.said)
    (transaction_of run entry) true

-- Conflicts aside, snapshot isolation accepts an insert where its key has no row, and an update or
-- a delete where it has one.
abbrev pub is_acceptable : State → Command → Bool
is_acceptable seen (command.Insert table row) = is_none (at_place seen (place_of table row))
is_acceptable seen (command.Update table row) = is_some (at_place seen (place_of table row))
is_acceptable seen (command.Delete table key) = is_some (at_place seen (place_at table key))
is_acceptable seen (command.Begin checked) = true
is_acceptable seen (command.Get table key) = true
is_acceptable seen (command.Range table low high) = true
is_acceptable seen (command.Total table column low high) = true
is_acceptable seen (command.Scan table) = true
is_acceptable seen command.Commit = true
is_acceptable seen command.Abort = true
is_acceptable seen command.Observe = true
is_acceptable seen command.Prune = true
is_acceptable seen (command.Compact table) = true
is_acceptable seen (command.Seal table block) = true
is_acceptable seen (command.Gather table block) = true
is_acceptable seen (command.Export table) = true

-- `ok`, `freezing` and `full` stand only where the write is acceptable, `exists` and `missing` only
-- where it isn't.
abbrev pub write_holds : Bool → Said → Bool
write_holds acceptable said.Accepted = acceptable
write_holds acceptable (said.Freezing table block stamp) = acceptable
write_holds acceptable said.Full = acceptable
write_holds acceptable said.Exists = not acceptable
write_holds acceptable said.Missing = not acceptable
write_holds acceptable (said.At number) = true
write_holds acceptable (said.Stale read number) = true
write_holds acceptable (said.Totalled count sum) = true
write_holds acceptable said.InTransaction = true
write_holds acceptable said.NoTransaction = true
write_holds acceptable (said.Found row) = true
write_holds acceptable said.Absent = true
write_holds acceptable (said.Scanned rows) = true
write_holds acceptable (said.ConflictSession session) = true
write_holds acceptable (said.ConflictCommit number) = true
write_holds acceptable (said.Committed number) = true
write_holds acceptable said.Aborted = true
write_holds acceptable (said.Cooling count) = true
write_holds acceptable (said.Pruned count) = true
write_holds acceptable (said.Moved count) = true
write_holds acceptable (said.Sealed table block stamp) = true
write_holds acceptable (said.NotSealed cause) = true
write_holds acceptable (said.Frozen table block rows) = true
write_holds acceptable said.NotFrozen = true
write_holds acceptable (said.Exported number rows batches frozen) = true
write_holds acceptable (said.Dirty key) = true
write_holds acceptable said.Memory = true

-- Writes.
abbrev pub writes_hold : Run → Entry → Bool
writes_hold run entry = option_map_or
    (λ t. write_holds (is_acceptable (seen_at run t entry) entry.command) entry.reply.said)
    (transaction_of run entry) true
