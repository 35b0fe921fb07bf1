use Rattle.std.proofs.Common.{◌-◌, arith}
use Rattle.txn_desk.proofs.LeastStart.{least_at_end}
use Rattle.txn_desk.proofs.Desk.end.Goals as goal

pub returns-clause-oldest : goal.returns-clause-oldest
returns-clause-oldest c =
    rw
    (← c.self.view_is)
    (least_at_end
    c.self.inside.newest
    c.self.inside.newest
    c.self.inside.open_snapshots.items
    (c.args.pass - 1)
    c.self.invariant.begun
    (omega arith))
