-- Replies to upkeep.
use Rattle.std.specs.Prelude.{Bool, true, false}
use Rattle.workload_spec.specs.declared.reply.Said.{Said}
use Rattle.workload_spec.specs.declared.reply.Said.TheVariants as said

-- the reply tells what an observation, a pruning, a compaction, a sealing or a gathering did
abbrev pub is_upkeep : Said → Bool
is_upkeep (said.Cooling count) = true
is_upkeep (said.Pruned count) = true
is_upkeep (said.Moved count) = true
is_upkeep (said.Sealed table block stamp) = true
is_upkeep (said.NotSealed cause) = true
is_upkeep (said.Frozen table block rows) = true
is_upkeep said.NotFrozen = true
is_upkeep (said.At number) = false
is_upkeep said.InTransaction = false
is_upkeep said.NoTransaction = false
is_upkeep (said.Found row) = false
is_upkeep said.Absent = false
is_upkeep (said.Scanned rows) = false
is_upkeep (said.Totalled count sum) = false
is_upkeep said.Accepted = false
is_upkeep (said.ConflictSession session) = false
is_upkeep (said.ConflictCommit number) = false
is_upkeep said.Exists = false
is_upkeep said.Missing = false
is_upkeep said.Full = false
is_upkeep (said.Freezing table block stamp) = false
is_upkeep (said.Committed number) = false
is_upkeep (said.Stale read number) = false
is_upkeep said.Aborted = false
is_upkeep (said.Exported number rows batches frozen) = false
is_upkeep (said.Dirty key) = false
is_upkeep said.Memory = false
