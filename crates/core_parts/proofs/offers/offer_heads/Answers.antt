use Rattle.core_parts.proofs.Numbered.{offered_next}
use Rattle.event_spec.specs.Parts.{HeadOf}
use Rattle.core_parts.proofs.offers.offer_heads.Goals as goal

pub loop-table-preserved : goal.loop-table-preserved
loop-table-preserved c = offered_next c.args.shape.now HeadOf c.loop-table.table c.args.least.now c.loop-table.least c.offer_head.new.least c.loop-table.invariant c.offer_head.ensures
