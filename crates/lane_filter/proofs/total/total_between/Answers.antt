use Rattle.std.proofs.Common.{ℤ, subst}
use Rattle.std.proofs.lemmas.Int.{to_z-of_z}
use mir.Syntax.{w128}
use mir.Val.{of_z, to_z}
use Rattle.lane_filter.specs.Totals.{IsTotalOf, numbers_between}
use Rattle.lane_filter.proofs.Cells.{values_of_buffers}
use Rattle.lane_filter.proofs.total.total_between.Goals as goal

pub returns : goal.returns
returns c cells long are =
    let t = c.total_of_values.ensures cells long (values_of_buffers c.args.numbers cells c.args.validity.now c.args.values.now c.args.slots
    c.saturating_sub-nulls.result c.valid_among.result long c.valid_among.ensures c.saturating_sub-nulls.ensures are) in
    let P : ℤ → Type 0 = λ low. IsTotalOf (numbers_between low (to_z w128 (of_z w128 c.args.high)) cells) c.total_of_values.result in
    let Q : ℤ → Type 0 = λ high. IsTotalOf (numbers_between c.args.low high cells) c.total_of_values.result in
    subst Q (to_z-of_z w128 c.args.high c.ranges.high) (subst P (to_z-of_z w128 c.args.low c.ranges.low) t)
