use Rattle.std.proofs.Common.{List}
use Rattle.core_sweeps.specs.MoveSteps.{AreMoved}
use Rattle.event_spec.specs.declared.event.MovePair.{MovePair}
use Rattle.core_sweeps.proofs.moving.move_all.Given as goal

abbrev pub invariant-loop-done : goal.invariant-loop-done
invariant-loop-done l = (moves : List MovePair) → AreMoved l.shape l.table moves l.fn.held l.fn.held l.pairs 0 → AreMoved l.shape l.table moves l.fn.held l.held l.pairs l.done
