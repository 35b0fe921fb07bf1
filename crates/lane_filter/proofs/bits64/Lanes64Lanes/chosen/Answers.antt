use Rattle.std.proofs.Common.{◌≡◌, ◌∙◌, arith, w64, zero-add}
use lib.Lanes.{sum_l}
use Rattle.std.proofs.lemmas.Simd.{fold-sum, sum_fits}
use Rattle.lane_filter.proofs.bits64.Lanes64Lanes.chosen.Goals as goal

lows_are : (c : goal.After-from-2) → c.from.result ≡ sum_l c.args.self.now.lows
lows_are c = c.from.ensures ∙ fold-sum 0 c.args.self.now.lows ∙ zero-add (sum_l c.args.self.now.lows)

highs_are : (c : goal.After-from-2) → c.from-2.result ≡ sum_l c.args.self.now.highs
highs_are c = c.from-2.ensures ∙ fold-sum 0 c.args.self.now.highs ∙ zero-add (sum_l c.args.self.now.highs)

pub overflow_add-lows : goal.overflow_add-lows
overflow_add-lows c = sum_fits w64 0 c.args.self.now.lows (omega (arith, c.args.self.now.lows_few))

pub overflow_add-highs : goal.overflow_add-highs
overflow_add-highs c = sum_fits w64 0 c.args.self.now.highs (omega (arith, c.args.self.now.highs_few))

pub overflow_add-result : goal.overflow_add-result
overflow_add-result c = sum_fits w64 0 c.args.self.now.counts (omega arith)

pub overflow_add-result-2 : goal.overflow_add-result-2
overflow_add-result-2 c =
    omega (arith, lows_are c, highs_are c, c.args.self.now.lows_few, c.args.self.now.highs_few)

pub returns-clause-count : goal.returns-clause-count
returns-clause-count c = fold-sum 0 c.args.self.now.counts ∙ zero-add (sum_l c.args.self.now.counts)

pub returns-clause-offsets : goal.returns-clause-offsets
returns-clause-offsets c =
    omega (arith, lows_are c, highs_are c, c.args.self.now.lows_few, c.args.self.now.highs_few)
