use Rattle.std.proofs.Common.{◌≡◌, map, take}
use Rattle.core_parts.specs.Least.{offered_all}
use Rattle.event_spec.specs.Parts.{ShardOf, shard_of}
use Rattle.event_spec.specs.declared.event.MovePair.{MovePair}
use Rattle.core_parts.proofs.offers.offer_moved_keys.Given as goal

abbrev pub invariant-loop-pair : goal.invariant-loop-pair
invariant-loop-pair l = l.least ≡ offered_all l.shape (map (λ (pair : MovePair). ShardOf l.fn.table (shard_of pair.key)) (take l.pair-index l.pairs)) l.fn.least
