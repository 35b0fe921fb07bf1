use Rattle.std.proofs.Common.{◌≡◌, ◌++◌, map}
use Rattle.core_parts.specs.Placed.{placed}
use Rattle.event_spec.specs.Parts.{ShardOf, below}
use Rattle.core_parts.proofs.opening.add_shards.Given as goal

abbrev pub invariant-loop-shard : goal.invariant-loop-shard
invariant-loop-shard l = l.shards.items ≡ l.fn.shards.items ++ placed l.shape (map (ShardOf l.table) (below l.shard))
