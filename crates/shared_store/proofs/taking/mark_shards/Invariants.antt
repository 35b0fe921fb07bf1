use Rattle.std.proofs.Common.{map}
use Rattle.event_spec.specs.Parts.{ShardOf, below}
use Rattle.shared_store.specs.Taking.{Marked}
use Rattle.shared_store.proofs.taking.mark_shards.Given as goal

abbrev pub invariant-loop-shard : goal.invariant-loop-shard
invariant-loop-shard l = Marked l.fn.shape (map (ShardOf l.fn.table) (below l.shard)) l.fn.marks l.marks
