-- A reply to upkeep by what it tells.
use Rattle.std.proofs.Common.{◌≡◌, ℕ, Bool, true, List, refl, nat_le}
use Rattle.std.specs.Option.{option_map_or}
use Rattle.cell_model.specs.declared.table.TableDecl.{TableDecl}
use Rattle.workload_spec.specs.declared.command.Command.{Command}
use Rattle.workload_spec.specs.declared.command.Command.TheVariants as command
use Rattle.workload_spec.specs.declared.reply.Said.{Said}
use Rattle.workload_spec.specs.declared.reply.Said.TheVariants as said
use Rattle.outcome_spec.specs.Entries.{Entry}
use Rattle.outcome_spec.specs.Runs.{Run}
use Rattle.outcome_spec.specs.Upkeep.{upkeep_reply_holds, prune_holds, pruned_in, gathered_block, moved_in, most_moved}
use Rattle.outcome_counts.specs.Blocks.{is_seal, is_freeze, is_idle}
use Rattle.outcome_counts.specs.Keys.{stamp_told, freeze_told, idle_told, block_gathered}

-- A test of the block that a command gathers is one however the block is given.
gathered-by : (f : ℕ → ℕ → Bool) (asked : Command) → option_map_or (λ block. f block.0 block.1) (gathered_block asked) true ≡ option_map_or (λ block. f block.table block.block) (block_gathered asked) true
gathered-by f (command.Gather table block) = refl
gathered-by f _ = refl

-- what sealing, gathering and moving tell holds
abbrev pub block_by : List TableDecl → List Entry → Entry → Said → Bool
block_by tables entries entry told =
    option_map_or (λ stamp. is_seal entries stamp entry) (stamp_told told)
    (option_map_or (λ frozen. is_freeze tables entries frozen.of frozen.rows entry) (freeze_told told)
    (option_map_or (λ block. is_idle entries block entry) (idle_told entry.command told)
    (option_map_or (λ count. nat_le count most_moved) (moved_in told) true)))

-- a reply to upkeep holds by what it tells: of a block, of moves or of a pruning
pub upkeep-told : (run : Run) (entry : Entry) (told : Said) → upkeep_reply_holds run entry told ≡ option_map_or (prune_holds run entry) (pruned_in told) (block_by run.tables run.entries entry told)
upkeep-told run entry said.NotFrozen = gathered-by (λ table block. is_idle run.entries (record { table = table; block = block }) entry) entry.command
upkeep-told run entry _ = refl
