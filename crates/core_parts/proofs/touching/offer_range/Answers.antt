use Rattle.std.proofs.Common.{[]}
use Rattle.std.specs.Option.{option_map_or}
use Rattle.core_parts.specs.Hands.{in_hand}
use Rattle.core_parts.specs.Least.{offered_all}
use Rattle.core_parts.specs.Touched.{bodies_on, shards_in}
use Rattle.core_parts.proofs.Numbered.{offered_keys}
use Rattle.event_spec.specs.Newest.{keys_within}
use Rattle.event_spec.specs.Parts.{ShardOf, shard_from}
use Rattle.core_parts.proofs.touching.offer_range.Goals as goal

pub loop-shard-preserved : goal.loop-shard-preserved
loop-shard-preserved c =
    let sh = c.args.shape.now in
    let t = c.args.range.now.table in
    offered_keys sh (bodies_on sh (in_hand sh c.args.held.now) (option_map_or (λ writes. writes.now) c.args.writes []) t)
    (λ shard. keys_within c.args.range.now.low c.args.range.now.high (shard_from (in_hand sh c.args.held.now (ShardOf t shard))))
    c.loop-shard.shard (offered_all sh (shards_in t) c.args.least.now) c.loop-shard.least c.offer_keys_of.new.least c.loop-shard.invariant c.offer_keys_of.ensures
