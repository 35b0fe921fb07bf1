use Rattle.std.proofs.Common.{◌≤◌, arith, get_or}
use Rattle.std.specs.Int.RustNames.{count_ones}
use Rattle.std.proofs.lemmas.List.Sums.{sum_by_more}
use lib.Count.{ones-le}
use Rattle.lane_filter.proofs.total.ones.Goals as goal

pub loop-byte-preserved : goal.loop-byte-preserved
loop-byte-preserved c =
    let byte = get_or c.args.bytes.now c.loop-byte.byte-index 0 in
    let small : count_ones byte ≤ 8 = ones-le 8 byte ((c.type_inv.bytes c.loop-byte.byte-index).fits) in
    record {
      is = omega (arith, c.loop-byte.invariant.is, sum_by_more count_ones c.args.bytes.now c.loop-byte.byte-index 0 c.loop-byte-test.true);
      few = omega (arith, c.loop-byte.invariant.few, small);
    }
