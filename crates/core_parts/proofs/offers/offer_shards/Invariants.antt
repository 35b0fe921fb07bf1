use Rattle.std.proofs.Common.{◌≡◌, map}
use Rattle.core_parts.specs.Least.{offered_all}
use Rattle.event_spec.specs.Parts.{ShardOf, below}
use Rattle.core_parts.proofs.offers.offer_shards.Given as goal

abbrev pub invariant-loop-shard : goal.invariant-loop-shard
invariant-loop-shard l = l.least ≡ offered_all l.shape (map (ShardOf l.fn.table) (below l.shard)) l.fn.least
