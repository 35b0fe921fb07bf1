-- By what a reply is counted.
use Rattle.std.specs.Prelude.{ℕ, ◌+◌, Bool, false, if◌then◌else◌, Option, None, Some, option_map}
use Rattle.std.specs.Option.{option_map_or}
use Rattle.std.specs.Ordering.{nat_cmp, ordering_then, is_eq}
use Rattle.std.specs.declared.cmp.Ordering.{Ordering}
use Rattle.workload_spec.specs.declared.command.Command.{Command}
use Rattle.workload_spec.specs.declared.command.Command.TheVariants as command
use Rattle.workload_spec.specs.declared.reply.Said.{Said}
use Rattle.workload_spec.specs.declared.reply.Said.TheVariants as said
use Rattle.outcome_spec.specs.Entries.{Entry, is_accepted}
use Rattle.outcome_spec.specs.Upkeep.{inserted_table}
use Rattle.outcome_counts.specs.declared.keys.Block.{Block}
use Rattle.outcome_counts.specs.declared.keys.Frozen.{Frozen}
use Rattle.outcome_counts.specs.declared.keys.Stamp.{Stamp}

-- blocks go by table and then by number, stamps by block and then by number
abbrev pub block_cmp : Block → Block → Ordering
block_cmp a b = ordering_then (nat_cmp a.table b.table) (nat_cmp a.block b.block)

abbrev pub stamp_cmp : Stamp → Stamp → Ordering
stamp_cmp a b = ordering_then (block_cmp a.of b.of) (nat_cmp a.stamp b.stamp)

-- the table into which the reply accepts an insert
abbrev pub inserted_into : Entry → Option ℕ
inserted_into entry = if is_accepted entry.reply.said then inserted_table entry.command else None

-- the block that a reply seals, with its stamp; and the one that it says was frozen
abbrev pub stamp_told : Said → Option Stamp
stamp_told (said.Sealed table block stamp) = Some
    (record { of = record { table = table; block = block }; stamp = stamp })
stamp_told _ = None

abbrev pub block_sealed : Said → Option Block
block_sealed told = option_map (λ stamp. stamp.of) (stamp_told told)

abbrev pub block_frozen : Said → Option Block
block_frozen (said.Frozen table block rows) = Some (record { table = table; block = block })
block_frozen _ = None

-- the stamp under which a reply says that a block is freezing
abbrev pub freezing_told : Said → Option Stamp
freezing_told (said.Freezing table block stamp) = Some
    (record { of = record { table = table; block = block }; stamp = stamp })
freezing_told _ = None

-- the table that a reply to an insert says is full
abbrev pub full_told : Command → Said → Option ℕ
full_told asked said.Full = inserted_table asked
full_told asked _ = None

-- the rows with which a reply says that a block was frozen
abbrev pub freeze_told : Said → Option Frozen
freeze_told (said.Frozen table block rows) = Some
    (record { of = record { table = table; block = block }; rows = rows })
freeze_told _ = None

-- the block that a gather finds not sealed
abbrev pub block_gathered : Command → Option Block
block_gathered (command.Gather table block) = Some (record { table = table; block = block })
block_gathered _ = None

abbrev pub idle_told : Command → Said → Option Block
idle_told asked said.NotFrozen = block_gathered asked
idle_told asked _ = None

-- the key is this one
abbrev pub is_keyed : {K : Type 0} → (K → K → Ordering) → K → Option K → Bool
is_keyed cmp key told = option_map_or (λ its. is_eq (cmp its key)) told false

-- one more than a stamp of the block, 0 where it is of another
abbrev pub above_told : Block → Option Stamp → ℕ
above_told block told = option_map_or
    (λ stamp. if is_eq (block_cmp stamp.of block) then stamp.stamp + 1 else 0) told 0
