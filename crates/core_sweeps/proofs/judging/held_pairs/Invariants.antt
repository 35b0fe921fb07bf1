use Rattle.core_sweeps.proofs.Keeping.{Keeping}
use Rattle.core_sweeps.specs.MoveSteps.{holds_in}
use Rattle.core_sweeps.proofs.judging.held_pairs.Given as goal

abbrev pub invariant-loop-at : goal.invariant-loop-at
invariant-loop-at l = Keeping (holds_in l.shape l.held l.table) l.fn.moves l.pairs.items l.at l.kept
