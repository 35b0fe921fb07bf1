-- What may be said of blocks, of a reply among others.
use Rattle.std.specs.Prelude.{ℕ, ◌+◌, Bool, true, ◌&&◌, ◌==◌, nat_lt, nat_le, List}
use Rattle.std.specs.List.{list_all}
use Rattle.std.specs.Option.{option_map_or}
use Rattle.cell_model.specs.declared.table.TableDecl.{TableDecl}
use Rattle.outcome_spec.specs.Entries.{Entry, before, not_after, shown_in}
use Rattle.outcome_spec.specs.Tables.{slots_at}
use Rattle.outcome_spec.specs.Upkeep.{stamp_in, stamp_count, seals_in, freezes_in, inserts_in}
use Rattle.outcome_spec.specs.Upkeep.{capacity_at, moved_in, most_moved}
use Rattle.outcome_counts.specs.Keys.{stamp_told, freeze_told, idle_told}
use Rattle.outcome_counts.specs.declared.keys.Block.{Block}
use Rattle.outcome_counts.specs.declared.keys.Stamp.{Stamp}

-- the seal under the stamp is one line, not after the reply, and fewer freezes of its block than
-- the stamp are before
abbrev pub is_freezing : List Entry → Stamp → Entry → Bool
is_freezing entries stamp entry =
    stamp_count stamp.of.table stamp.of.block stamp.stamp entries == 1
    && stamp_count stamp.of.table stamp.of.block stamp.stamp (not_after entries entry) == 1
    && nat_lt (freezes_in stamp.of.table stamp.of.block (before entries entry)) stamp.stamp

-- as many accepted inserts into the table as its blocks have slots are not after the reply
abbrev pub is_full : List TableDecl → List Entry → ℕ → Entry → Bool
is_full tables entries table entry = nat_le (capacity_at tables table)
    (inserts_in table (not_after entries entry))

-- the stamp is 1 to the count of the block's seals, on no other of them, and above that of each of
-- them before
abbrev pub is_seal : List Entry → Stamp → Entry → Bool
is_seal entries stamp entry =
    nat_le 1 stamp.stamp && nat_le stamp.stamp (seals_in stamp.of.table stamp.of.block entries)
    && stamp_count stamp.of.table stamp.of.block stamp.stamp entries == 1
    && list_all (λ earlier. nat_lt earlier stamp.stamp)
    (shown_in (stamp_in stamp.of.table stamp.of.block) (before entries entry))

-- 1 to so many rows as a block has slots; this freeze and those of the block before are no more than its seals not after
abbrev pub is_freeze : List TableDecl → List Entry → Block → ℕ → Entry → Bool
is_freeze tables entries block rows entry =
    nat_le 1 rows && nat_le rows (slots_at tables block.table)
    && nat_le (1 + freezes_in block.table block.block (before entries entry))
    (seals_in block.table block.block (not_after entries entry))

-- the block's freezes not after the reply are no fewer than its seals before
abbrev pub is_idle : List Entry → Block → Entry → Bool
is_idle entries block entry =
    nat_le (seals_in block.table block.block (before entries entry))
    (freezes_in block.table block.block (not_after entries entry))

-- What each reply to upkeep may say, but for what is pruned.
abbrev pub block_upkeep_holds : List TableDecl → List Entry → Entry → Bool
block_upkeep_holds tables entries entry =
    option_map_or (λ stamp. is_seal entries stamp entry) (stamp_told entry.reply.said)
    (option_map_or (λ frozen. is_freeze tables entries frozen.of frozen.rows entry)
    (freeze_told entry.reply.said)
    (option_map_or (λ block. is_idle entries block entry) (idle_told entry.command entry.reply.said)
    (option_map_or (λ count. nat_le count most_moved) (moved_in entry.reply.said) true)))
