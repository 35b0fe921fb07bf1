use Rattle.std.proofs.Common.{◌≡◌, []}
use Rattle.std.specs.List.{flat_map}
use Rattle.std.specs.Option.{option_map_or}
use Rattle.core_parts.specs.Hands.{in_hand}
use Rattle.core_parts.specs.Least.{offered_all}
use Rattle.core_parts.specs.Touched.{bodies_on, shards_in}
use Rattle.event_spec.specs.Newest.{keys_within}
use Rattle.event_spec.specs.Parts.{ShardOf, below, shard_from}
use Rattle.core_parts.proofs.touching.offer_range.Given as goal

abbrev pub invariant-loop-shard : goal.invariant-loop-shard
invariant-loop-shard l = l.least
    ≡ offered_all l.shape
    (flat_map (bodies_on l.shape (in_hand l.shape l.held) (option_map_or (λ writes. writes.now) l.fn.writes []) l.range.table)
    (flat_map (λ shard. keys_within l.range.low l.range.high (shard_from (in_hand l.shape l.held (ShardOf l.range.table shard)))) (below l.shard)))
    (offered_all l.shape (shards_in l.range.table) l.fn.least)
