use Rattle.std.proofs.Common.{◌-◌, ◌≤◌}
use Rattle.shared_store.specs.Taking.{TakesMarked}
use Rattle.shared_store.proofs.store.Store.take_marked.Given as goal

abbrev pub invariant-loop-at : goal.invariant-loop-at
invariant-loop-at g l = (l.fn.from ≤ l.at) × (l.at ≤ l.fn.to)
    × TakesMarked l.fn.self l.fn.pass.seat l.pass.seat l.fn.pass.hands l.pass.hands l.fn.marks l.fn.from l.at l.fn.to

abbrev pub decreases-loop-at : goal.decreases-loop-at
decreases-loop-at g l = l.to - l.at
