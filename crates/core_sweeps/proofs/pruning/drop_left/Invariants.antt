use Rattle.std.proofs.Common.{◌-◌, length}
use Rattle.core_sweeps.specs.SweepSteps.{IsDropped, body_in}
use Rattle.core_sweeps.proofs.pruning.drop_left.Given as goal

abbrev pub invariant-loop-slot : goal.invariant-loop-slot
invariant-loop-slot l = IsDropped l.shape l.table l.block l.oldest l.from l.fn.held l.held

abbrev pub decreases-loop-slot : goal.decreases-loop-slot
decreases-loop-slot l = length (body_in l.shape l.fn.held l.table l.block).slots - l.from
