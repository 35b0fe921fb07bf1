use Rattle.std.proofs.Common.{map}
use Rattle.std.specs.Map.Iter.{deref_pair}
use Rattle.core_sweeps.specs.SweepSteps.{IsUndone}
use Rattle.core_sweeps.proofs.aborting.undo_all.Given as goal

abbrev pub invariant-loop-row : goal.invariant-loop-row
invariant-loop-row l = IsUndone l.shape l.own l.fn.held l.held (map deref_pair l.yielded)
