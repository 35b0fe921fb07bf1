use Rattle.std.proofs.Common.{refl, ◌-◌}
use Rattle.txn_desk.proofs.LeastStart.{least_at_begin}
use Rattle.txn_desk.proofs.Desk.begin.Goals as goal

pub returns-clause-oldest : goal.returns-clause-oldest
returns-clause-oldest c =
    rw
    (← c.self.view_is)
    (least_at_begin
    c.self.inside.newest
    c.self.inside.open_snapshots.items
    (c.args.pass - 1)
    (record { stamp = c.self.inside.newest; number = c.self.inside.commits })
    c.self.invariant.begun
    refl
    (rw (← c.self.view_is) at c.requires.idle))
