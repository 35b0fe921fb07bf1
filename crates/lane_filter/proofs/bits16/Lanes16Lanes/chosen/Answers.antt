use Rattle.std.proofs.Common.{◌∙◌, arith, w32, zero-add}
use lib.Lanes.{sum_l}
use Rattle.std.proofs.lemmas.Simd.{fold-sum, sum_fits}
use Rattle.lane_filter.proofs.bits16.Lanes16Lanes.chosen.Goals as goal

pub overflow_add-self : goal.overflow_add-self
overflow_add-self c = sum_fits w32 0 c.args.self.now.counts (omega arith)

pub overflow_add-self-2 : goal.overflow_add-self-2
overflow_add-self-2 c = sum_fits w32 0 c.args.self.now.offsets (omega (arith, c.args.self.now.few))

pub returns-clause-count : goal.returns-clause-count
returns-clause-count c = c.from.ensures ∙ fold-sum 0 c.args.self.now.counts ∙ zero-add (sum_l c.args.self.now.counts)

pub returns-clause-offsets : goal.returns-clause-offsets
returns-clause-offsets c = c.from-2.ensures ∙ fold-sum 0 c.args.self.now.offsets ∙ zero-add (sum_l c.args.self.now.offsets)
