-- Which replies there are over tables: numbers of their types, tables and causes that there are,
-- and rows with a key.
use Rattle.std.specs.Prelude.{ℕ, ◌^◌, ◌-◌, Bool, true, false, ◌&&◌, nat_lt, List, [], ◌∷◌, length}
use Rattle.std.specs.Prelude.{None, Some, ℤ, pos, negsuc}
use Rattle.std.specs.List.{list_all}
use Rattle.cell_model.specs.declared.cell.Cell.{Cell}
use Rattle.cell_model.specs.declared.cell.Cell.TheVariants.{Null, Num, Truth, Text, Blob}
use Rattle.cell_model.specs.declared.table.TableDecl.{TableDecl}
use Rattle.cell_model.specs.Values.{are_bytes, is_between}
use Rattle.workload_spec.specs.declared.reply.ReplyLine.{ReplyLine}
use Rattle.workload_spec.specs.declared.reply.Who.{Who}
use Rattle.workload_spec.specs.declared.reply.Who.TheVariants.{Session, Worker}
use Rattle.workload_spec.specs.declared.reply.Said.{Said}
use Rattle.workload_spec.specs.declared.reply.Said.TheVariants as said
use Rattle.workload_spec.specs.declared.reply.StaleRead.{StaleRead}
use Rattle.workload_spec.specs.declared.reply.StaleRead.TheVariants as stale
use Rattle.workload_spec.specs.Valid.{is_table, have_own_names, is_table_place, is_key_number}
use Rattle.word_read.specs.Numbers.{magnitude}

abbrev pub is_u32 : ℕ → Bool
is_u32 number = nat_lt number (2 ^ 32)

abbrev pub is_u64 : ℕ → Bool
is_u64 number = nat_lt number (2 ^ 64)

-- the tables are of their forms, no two of one name
abbrev pub are_tables : List TableDecl → Bool
are_tables tables = list_all is_table tables && have_own_names tables

-- a cell of some column: its integers are nearer to 0 than 2^64
abbrev pub is_cell : Cell → Bool
is_cell Null = true
is_cell (Num number) = nat_lt (magnitude number) (2 ^ 64)
is_cell (Truth truth) = true
is_cell (Text text) = true
is_cell (Blob bytes) = are_bytes bytes

-- a row has its key at least
abbrev pub is_row : List Cell → Bool
is_row [] = false
is_row (key ∷ cells) = is_cell key && list_all is_cell cells

-- a signed number of 128 bits
abbrev pub is_sum : ℤ → Bool
is_sum sum = is_between (negsuc (2 ^ 127 - 1)) (pos (2 ^ 127 - 1)) sum

-- a table that there is, and keys
abbrev pub is_stale : List TableDecl → StaleRead → Bool
is_stale tables (stale.Key table key) = is_table_place tables table && is_key_number key
is_stale tables (stale.Table table) = is_table_place tables table
is_stale tables (stale.Range table low high) = is_table_place tables table && is_key_number low
    && is_key_number high

abbrev pub is_said : List TableDecl → Said → Bool
is_said tables (said.At number) = is_u64 number
is_said tables said.InTransaction = true
is_said tables said.NoTransaction = true
is_said tables (said.Found row) = is_row row
is_said tables said.Absent = true
is_said tables (said.Scanned rows) = is_u64 (length rows) && list_all is_row rows
is_said tables (said.Totalled count sum) = is_u64 count && is_sum sum
is_said tables said.Accepted = true
is_said tables (said.ConflictSession session) = is_u32 session
is_said tables (said.ConflictCommit number) = is_u64 number
is_said tables said.Exists = true
is_said tables said.Missing = true
is_said tables said.Full = true
is_said tables (said.Freezing table block stamp) = is_table_place tables table && is_u32 block
    && is_u32 stamp
is_said tables (said.Committed None) = true
is_said tables (said.Committed (Some number)) = is_u64 number
is_said tables (said.Stale read number) = is_stale tables read && is_u64 number
is_said tables said.Aborted = true
is_said tables (said.Cooling count) = is_u64 count
is_said tables (said.Pruned count) = is_u64 count
is_said tables (said.Moved count) = is_u64 count
is_said tables (said.Sealed table block stamp) = is_table_place tables table && is_u32 block
    && is_u32 stamp
is_said tables (said.NotSealed cause) = true
is_said tables (said.Frozen table block rows) = is_table_place tables table && is_u32 block
    && is_u32 rows
is_said tables said.NotFrozen = true
is_said tables (said.Exported number rows batches frozen) = is_u64 number && is_u64 rows
    && is_u32 batches && is_u32 frozen
is_said tables (said.Dirty key) = is_key_number key
is_said tables said.Memory = true

abbrev pub is_who : Who → Bool
is_who (Session number) = is_u32 number
is_who (Worker number) = is_u32 number

abbrev pub is_reply : List TableDecl → ReplyLine → Bool
is_reply tables reply = is_u32 reply.round && is_who reply.who && is_u64 reply.index
    && is_said tables reply.said
