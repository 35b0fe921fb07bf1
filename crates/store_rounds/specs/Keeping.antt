-- How many events a command of upkeep makes at most, and how far it counts.
use Rattle.std.specs.Prelude.{◌≡◌, ℕ, ◌+◌, ◌<◌, ◌^◌}
use Rattle.workload_spec.specs.declared.command.Command.{Command}
use Rattle.workload_spec.specs.declared.command.Command.TheVariants as command
use Rattle.workload_spec.specs.declared.reply.Said.{Said}
use Rattle.workload_spec.specs.declared.reply.Said.TheVariants as said
use Rattle.shared_store.specs.Store.{most_blocks, most_blocks_in_table}

-- So many events a command makes at most: an event for each block that it goes over, and one more
-- for a pruning's stamp and a compaction's move. The other commands are no upkeep.
abbrev pub most_made : Command → ℕ
most_made command.Observe = most_blocks
most_made command.Prune = most_blocks + 1
most_made (command.Compact table) = most_blocks_in_table + 1
most_made (command.Seal table block) = 1
most_made (command.Gather table block) = 1
most_made (command.Begin checked) = 0
most_made (command.Get table key) = 0
most_made (command.Scan table) = 0
most_made (command.Range table low high) = 0
most_made (command.Total table column low high) = 0
most_made (command.Insert table row) = 0
most_made (command.Update table row) = 0
most_made (command.Delete table key) = 0
most_made command.Commit = 0
most_made command.Abort = 0
most_made (command.Export table) = 0

-- No command of upkeep makes more than a pruning.
abbrev pub most_upkeep : ℕ
most_upkeep = most_blocks + 1

-- what is told is no pruning's count beyond 64 bits
abbrev pub Counts : Said → Type 0
Counts told = (count : ℕ) → told ≡ said.Pruned count → count < 2 ^ 64
