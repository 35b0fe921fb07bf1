use Rattle.std.proofs.Common.{◌∙◌, List, [], subst}
use Rattle.std.specs.List.{flat_map}
use Rattle.core_parts.specs.Hands.{in_hand}
use Rattle.core_parts.specs.Touched.{names_ranged}
use Rattle.isolation_spec.specs.declared.read.KeyRange.{KeyRange}
use Rattle.shared_store.specs.Taking.{Marked}
use Rattle.shared_store.proofs.Marking.{marked_next, still_marked, take_whole}
use Rattle.shared_store.proofs.taking.mark_ranges.Goals as goal

pub loop-range-init : goal.loop-range-init
loop-range-init c = still_marked c.args.shape.now c.args.marks.now

pub mark_range-requires : goal.mark_range-requires
mark_range-requires c = c.loop-range.invariant.room ∙ c.requires

pub loop-range-preserved : goal.loop-range-preserved
loop-range-preserved c = marked_next c.args.shape.now (names_ranged c.args.shape.now (in_hand c.args.shape.now c.args.held.now) []) c.ranges-range-items.result.now c.loop-range.range-index _
    c.args.marks.now c.loop-range.marks c.mark_range.new.marks c.loop-range-test.true c.loop-range.invariant c.mark_range.ensures

pub returns : goal.returns
returns c = subst (λ (ranges : List KeyRange). Marked c.args.shape.now (flat_map (names_ranged c.args.shape.now (in_hand c.args.shape.now c.args.held.now) []) ranges) c.args.marks.now c.loop-range.marks)
    (take_whole c.ranges-range-items.result.now c.loop-range.range-index c.loop-range-test.false ∙ c.ranges-range-items.ensures) c.loop-range.invariant
