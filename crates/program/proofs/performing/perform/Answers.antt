use Rattle.std.specs.Option.{ForSome}
use Rattle.disk_ports.specs.Crashes.{LeavesJust}
use Rattle.program.proofs.Flushes.{stays_flushed}
use Rattle.program.proofs.performing.perform.Goals as goal

pub returns-clause-stays : goal.returns-clause-stays
returns-clause-stays g c = λ asks.
    stays_flushed c.carry_out-worked.result c.flush_behind.result
    (g.O.Sink.faults c.carry_out-worked.new.out) (g.O.Sink.faults c.flush_behind.new.out)
    (ForSome (g.D.Disk.told c.args.disk.now)
    (LeavesJust (g.D.Disk.may_leave c.carry_out-worked.new.disk)))
    c.flush_behind.ensures.ends (c.carry_out-worked.ensures.stays asks)
