use Rattle.std.proofs.Common.{◌≤◌, List}
use Rattle.core_sweeps.specs.MoveSteps.{AreBack}
use Rattle.core_parts.specs.Hands.{Held}
use Rattle.event_spec.specs.declared.event.MovePair.{MovePair}
use Rattle.core_sweeps.proofs.moving.undo_pairs.Given as goal

abbrev pub invariant-loop-left : goal.invariant-loop-left
invariant-loop-left l = (l.left ≤ l.done) × ((moves : List MovePair) (old : Held) → AreBack l.shape l.table moves old l.fn.held l.pairs l.done → AreBack l.shape l.table moves old l.held l.pairs l.left)

abbrev pub decreases-loop-left : goal.decreases-loop-left
decreases-loop-left l = l.left
