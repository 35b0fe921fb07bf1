use Rattle.core_parts.proofs.Numbered.{offered_next}
use Rattle.event_spec.specs.Parts.{ShardOf}
use Rattle.core_parts.proofs.offers.offer_shards.Goals as goal

pub loop-shard-preserved : goal.loop-shard-preserved
loop-shard-preserved c = offered_next c.args.shape.now (ShardOf c.args.table) c.loop-shard.shard c.args.least.now c.loop-shard.least c.offer_shard.new.least c.loop-shard.invariant c.offer_shard.ensures
