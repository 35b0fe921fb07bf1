-- What may be said of blocks: freezing, full tables, exports and upkeep.
use Rattle.std.specs.Prelude.{ℕ, ◌+◌, ◌*◌, Bool, true, false, ◌&&◌, ◌==◌, nat_lt, nat_le, List}
use Rattle.std.specs.Prelude.{length, count_by, sum, if◌then◌else◌, Option, None, Some}
use Rattle.std.specs.Prelude.{is_none}
use Rattle.std.specs.List.{list_all, range_with_len}
use Rattle.std.specs.Option.{option_map_or}
use Rattle.std.specs.Ordering.{int_eq}
use Rattle.cell_model.specs.declared.table.TableDecl.{TableDecl}
use Rattle.isolation_spec.specs.Contents.{least_key, state_at, contents_of, rows_left}
use Rattle.workload_spec.specs.declared.command.Command.{Command}
use Rattle.workload_spec.specs.declared.command.Command.TheVariants as command
use Rattle.workload_spec.specs.declared.reply.Said.{Said}
use Rattle.workload_spec.specs.declared.reply.Said.TheVariants as said
use Rattle.outcome_spec.specs.Entries.{Entry, before, not_after, shown_in, is_accepted}
use Rattle.outcome_spec.specs.Runs.{Run, Span, transaction_of, writes_in, writes_committed_in}
use Rattle.outcome_spec.specs.Tables.{slots_at, blocks_at}

-- the stamp of a line `sealed` of this block
abbrev pub stamp_in : ℕ → ℕ → Said → Option ℕ
stamp_in table block (said.Sealed of_table of_block stamp) = if of_table == table
    && of_block == block then Some stamp else None
stamp_in table block _ = None

-- the rows of a line `frozen` of this block
abbrev pub rows_in : ℕ → ℕ → Said → Option ℕ
rows_in table block (said.Frozen of_table of_block rows) = if of_table == table && of_block == block
    then Some rows else None
rows_in table block _ = None

-- how many lines `sealed`, and `frozen`, of the block are among these
abbrev pub seals_in : ℕ → ℕ → List Entry → ℕ
seals_in table block entries = length (shown_in (stamp_in table block) entries)

abbrev pub freezes_in : ℕ → ℕ → List Entry → ℕ
freezes_in table block entries = length (shown_in (rows_in table block) entries)

-- how many lines `sealed` of the block have the stamp
abbrev pub stamp_count : ℕ → ℕ → ℕ → List Entry → ℕ
stamp_count table block stamp entries = count_by (λ shown. shown == stamp)
    (shown_in (stamp_in table block) entries)

-- `freezing T b g`: `sealed T b g` is one line, not after this reply, and fewer than g lines
-- `frozen T b` are before it.
abbrev pub freezing_reply_holds : Run → Entry → Said → Bool
freezing_reply_holds run entry (said.Freezing table block stamp) =
    stamp_count table block stamp run.entries == 1
    && stamp_count table block stamp (not_after run.entries entry) == 1
    && nat_lt (freezes_in table block (before run.entries entry)) stamp
freezing_reply_holds run entry (said.At number) = true
freezing_reply_holds run entry (said.Stale read number) = true
freezing_reply_holds run entry (said.Totalled count sum) = true
freezing_reply_holds run entry said.InTransaction = true
freezing_reply_holds run entry said.NoTransaction = true
freezing_reply_holds run entry (said.Found row) = true
freezing_reply_holds run entry said.Absent = true
freezing_reply_holds run entry (said.Scanned rows) = true
freezing_reply_holds run entry said.Accepted = true
freezing_reply_holds run entry (said.ConflictSession session) = true
freezing_reply_holds run entry (said.ConflictCommit number) = true
freezing_reply_holds run entry said.Exists = true
freezing_reply_holds run entry said.Missing = true
freezing_reply_holds run entry said.Full = true
freezing_reply_holds run entry (said.Committed number) = true
freezing_reply_holds run entry said.Aborted = true
freezing_reply_holds run entry (said.Cooling count) = true
freezing_reply_holds run entry (said.Pruned count) = true
freezing_reply_holds run entry (said.Moved count) = true
freezing_reply_holds run entry (said.Sealed table block stamp) = true
freezing_reply_holds run entry (said.NotSealed cause) = true
freezing_reply_holds run entry (said.Frozen table block rows) = true
freezing_reply_holds run entry said.NotFrozen = true
freezing_reply_holds run entry (said.Exported number rows batches frozen) = true
freezing_reply_holds run entry (said.Dirty key) = true
freezing_reply_holds run entry said.Memory = true

-- Freezing.
abbrev pub freezing_holds : Run → Entry → Bool
freezing_holds run entry = freezing_reply_holds run entry entry.reply.said

-- an accepted insert into the table
abbrev pub is_accepted_insert : ℕ → Command → Said → Bool
is_accepted_insert table (command.Insert into row) told = into == table && is_accepted told
is_accepted_insert table _ told = false

-- the table that a command inserts into
abbrev pub inserted_table : Command → Option ℕ
inserted_table (command.Insert table row) = Some table
inserted_table _ = None

-- how many accepted inserts into the table are among these
abbrev pub inserts_in : ℕ → List Entry → ℕ
inserts_in table entries = count_by
    (λ entry. is_accepted_insert table entry.command entry.reply.said) entries

-- how many rows the blocks of the table take
abbrev pub capacity_at : List TableDecl → ℕ → ℕ
capacity_at tables table = blocks_at tables table * slots_at tables table

-- `full`: the rows of the table that the store began with, and the accepted inserts into it that are
-- not after this reply, are together at least as many as its blocks have slots.
abbrev pub full_reply_holds : Run → Entry → Said → Bool
full_reply_holds run entry (said.At number) = true
full_reply_holds run entry (said.Stale read number) = true
full_reply_holds run entry (said.Totalled count sum) = true
full_reply_holds run entry said.InTransaction = true
full_reply_holds run entry said.NoTransaction = true
full_reply_holds run entry (said.Found row) = true
full_reply_holds run entry said.Absent = true
full_reply_holds run entry (said.Scanned rows) = true
full_reply_holds run entry said.Accepted = true
full_reply_holds run entry (said.ConflictSession session) = true
full_reply_holds run entry (said.ConflictCommit number) = true
full_reply_holds run entry said.Exists = true
full_reply_holds run entry said.Missing = true
full_reply_holds run entry said.Full =
    option_map_or (λ table. nat_le (capacity_at run.tables table)
    (length (rows_left run.first table) + inserts_in table (not_after run.entries entry)))
    (inserted_table entry.command) true
full_reply_holds run entry (said.Freezing table block stamp) = true
full_reply_holds run entry (said.Committed number) = true
full_reply_holds run entry said.Aborted = true
full_reply_holds run entry (said.Cooling count) = true
full_reply_holds run entry (said.Pruned count) = true
full_reply_holds run entry (said.Moved count) = true
full_reply_holds run entry (said.Sealed table block stamp) = true
full_reply_holds run entry (said.NotSealed cause) = true
full_reply_holds run entry (said.Frozen table block rows) = true
full_reply_holds run entry said.NotFrozen = true
full_reply_holds run entry (said.Exported number rows batches frozen) = true
full_reply_holds run entry (said.Dirty key) = true
full_reply_holds run entry said.Memory = true

-- Full tables.
abbrev pub full_holds : Run → Entry → Bool
full_holds run entry = full_reply_holds run entry entry.reply.said

-- how many of the table's blocks have a line `frozen` among these
abbrev pub frozen_blocks : List TableDecl → ℕ → List Entry → ℕ
frozen_blocks tables table entries = count_by (λ block. nat_lt 0 (freezes_in table block entries))
    (range_with_len 0 (blocks_at tables table))

-- `export n rows R batches B frozen F`: n is the transaction's, R the rows of the table at n, F at
-- most B, B at most R, R at most B times the slots, B at most the table's blocks, and F at most
-- those with a `frozen` not after.
abbrev pub summary_holds : Run → Span → Entry → ℕ → ℕ → ℕ → ℕ → ℕ → Bool
summary_holds run t entry table number rows batches frozen =
    number == t.snapshot && rows == length (contents_of table (state_at run.history number))
    && nat_le frozen batches && nat_le batches rows
    && nat_le rows (batches * slots_at run.tables table)
    && nat_le batches (blocks_at run.tables table)
    && nat_le frozen (frozen_blocks run.tables table (not_after run.entries entry))

-- the table that a command exports
abbrev pub exported_table : Command → Option ℕ
exported_table (command.Export table) = Some table
exported_table _ = None

-- an export is done where the transaction has no accepted write in the table before it, and else
-- shows the least key of these
abbrev pub export_reply_holds : Run → Span → Entry → ℕ → Said → Bool
export_reply_holds run t entry table (said.At number) = true
export_reply_holds run t entry table (said.Stale read number) = true
export_reply_holds run t entry table (said.Totalled count sum) = true
export_reply_holds run t entry table said.InTransaction = true
export_reply_holds run t entry table said.NoTransaction = true
export_reply_holds run t entry table (said.Found row) = true
export_reply_holds run t entry table said.Absent = true
export_reply_holds run t entry table (said.Scanned rows) = true
export_reply_holds run t entry table said.Accepted = true
export_reply_holds run t entry table (said.ConflictSession session) = true
export_reply_holds run t entry table (said.ConflictCommit number) = true
export_reply_holds run t entry table said.Exists = true
export_reply_holds run t entry table said.Missing = true
export_reply_holds run t entry table said.Full = true
export_reply_holds run t entry table (said.Freezing of_table block stamp) = true
export_reply_holds run t entry table (said.Committed number) = true
export_reply_holds run t entry table said.Aborted = true
export_reply_holds run t entry table (said.Cooling count) = true
export_reply_holds run t entry table (said.Pruned count) = true
export_reply_holds run t entry table (said.Moved count) = true
export_reply_holds run t entry table (said.Sealed of_table block stamp) = true
export_reply_holds run t entry table (said.NotSealed cause) = true
export_reply_holds run t entry table (said.Frozen of_table block rows) = true
export_reply_holds run t entry table said.NotFrozen = true
export_reply_holds run t entry table (said.Exported number rows batches frozen) =
    is_none (least_key table (writes_in (before t.replies entry)))
    && summary_holds run t entry table number rows batches frozen
export_reply_holds run t entry table (said.Dirty key) = option_map_or (int_eq key)
    (least_key table (writes_in (before t.replies entry))) false
export_reply_holds run t entry table said.Memory = true

-- Exports.
abbrev pub exports_hold : Run → Entry → Bool
exports_hold run entry = option_map_or
    (λ t. option_map_or (λ table. export_reply_holds run t entry table entry.reply.said)
    (exported_table entry.command) true)
    (transaction_of run entry) true

-- `sealed T b g`: g is 1 to the count of lines `sealed T b`, on no other of them, and above that of
-- each of them before.
abbrev pub seal_holds : Run → Entry → ℕ → ℕ → ℕ → Bool
seal_holds run entry table block stamp =
    nat_le 1 stamp && nat_le stamp (seals_in table block run.entries)
    && stamp_count table block stamp run.entries == 1
    && list_all (λ earlier. nat_lt earlier stamp)
    (shown_in (stamp_in table block) (before run.entries entry))

-- `frozen T b rows`: 1 to so many rows as a block has slots; it and the `frozen T b` before it are
-- no more than the `sealed T b` not after.
abbrev pub freeze_holds : Run → Entry → ℕ → ℕ → ℕ → Bool
freeze_holds run entry table block rows =
    nat_le 1 rows && nat_le rows (slots_at run.tables table)
    && nat_le (1 + freezes_in table block (before run.entries entry))
    (seals_in table block (not_after run.entries entry))

-- the block that a command gathers
abbrev pub gathered_block : Command → Option (ℕ × ℕ)
gathered_block (command.Gather table block) = Some (table, block)
gathered_block _ = None

-- `not frozen` of T b: the `frozen T b` not after are no fewer than the `sealed T b` before.
abbrev pub idle_gather_holds : Run → Entry → Bool
idle_gather_holds run entry = option_map_or
    (λ block. nat_le (seals_in block.0 block.1 (before run.entries entry))
    (freezes_in block.0 block.1 (not_after run.entries entry)))
    (gathered_block entry.command) true

-- the count that a line `pruned` shows, and that a line `moved` does
abbrev pub pruned_in : Said → Option ℕ
pruned_in (said.Pruned count) = Some count
pruned_in _ = None

abbrev pub moved_in : Said → Option ℕ
moved_in (said.Moved count) = Some count
moved_in _ = None

-- `pruned c`: c and all pruned before are no more than the accepted writes of the transactions
-- whose commit isn't after, and twice the moved not after.
abbrev pub prune_holds : Run → Entry → ℕ → Bool
prune_holds run entry count = nat_le (count + sum (shown_in pruned_in (before run.entries entry)))
    (writes_committed_in (not_after run.entries entry) + 2 * sum
    (shown_in moved_in (not_after run.entries entry)))

-- the most rows that one compaction may move
abbrev pub most_moved : ℕ
most_moved = 64

-- what each reply to upkeep shows; `moved c` shows at most 64
abbrev pub upkeep_reply_holds : Run → Entry → Said → Bool
upkeep_reply_holds run entry (said.Sealed table block stamp) = seal_holds run entry table block
    stamp
upkeep_reply_holds run entry (said.Frozen table block rows) = freeze_holds run entry table block
    rows
upkeep_reply_holds run entry said.NotFrozen = idle_gather_holds run entry
upkeep_reply_holds run entry (said.Moved count) = nat_le count most_moved
upkeep_reply_holds run entry (said.Pruned count) = prune_holds run entry count
upkeep_reply_holds run entry (said.At number) = true
upkeep_reply_holds run entry (said.Stale read number) = true
upkeep_reply_holds run entry (said.Totalled count sum) = true
upkeep_reply_holds run entry said.InTransaction = true
upkeep_reply_holds run entry said.NoTransaction = true
upkeep_reply_holds run entry (said.Found row) = true
upkeep_reply_holds run entry said.Absent = true
upkeep_reply_holds run entry (said.Scanned rows) = true
upkeep_reply_holds run entry said.Accepted = true
upkeep_reply_holds run entry (said.ConflictSession session) = true
upkeep_reply_holds run entry (said.ConflictCommit number) = true
upkeep_reply_holds run entry said.Exists = true
upkeep_reply_holds run entry said.Missing = true
upkeep_reply_holds run entry said.Full = true
upkeep_reply_holds run entry (said.Freezing table block stamp) = true
upkeep_reply_holds run entry (said.Committed number) = true
upkeep_reply_holds run entry said.Aborted = true
upkeep_reply_holds run entry (said.Cooling count) = true
upkeep_reply_holds run entry (said.NotSealed cause) = true
upkeep_reply_holds run entry (said.Exported number rows batches frozen) = true
upkeep_reply_holds run entry (said.Dirty key) = true
upkeep_reply_holds run entry said.Memory = true

-- Upkeep.
abbrev pub upkeep_holds : Run → Entry → Bool
upkeep_holds run entry = upkeep_reply_holds run entry entry.reply.said
