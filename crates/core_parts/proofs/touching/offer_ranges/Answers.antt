use Rattle.std.proofs.Common.{[]}
use Rattle.core_parts.specs.Hands.{in_hand}
use Rattle.core_parts.specs.Touched.{names_ranged}
use Rattle.core_parts.proofs.Numbered.{offered_part}
use Rattle.core_parts.proofs.touching.offer_ranges.Goals as goal

pub loop-range-preserved : goal.loop-range-preserved
loop-range-preserved c = offered_part c.args.shape.now (names_ranged c.args.shape.now (in_hand c.args.shape.now c.args.held.now) []) c.ranges-range-items.result.now c.loop-range.range-index _
    c.args.least.now c.loop-range.least c.offer_range.new.least c.loop-range-test.true c.loop-range.invariant c.offer_range.ensures
