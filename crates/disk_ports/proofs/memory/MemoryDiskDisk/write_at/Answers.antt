use Rattle.std.proofs.Common.{ap, length, subst, ◌∙◌}
use Rattle.disk_ports.specs.Crashes.{Leaves}
use Rattle.disk_ports.specs.FileSteps.{Lays}
use Rattle.disk_ports.specs.Memory.{Held, Wrote, may_hold}
use Rattle.disk_ports.proofs.Laying.{tears_laid}
use Rattle.disk_ports.proofs.Past.{elapses_goes, goes_counted, leaves_waits, leaves_wrote, torn_same, waits_refused}
use Rattle.disk_ports.proofs.memory.MemoryDiskDisk.write_at.Goals as goal

pub returns-in-Err-clause-bytes : goal.returns-in-Err-clause-bytes
returns-in-Err-clause-bytes c =
    torn_same c.args.at (length c.args.piece.now) c.args.self.now.bytes c.keep_failed.new.self.bytes
    (c.keep_failed.ensures.bytes ∙ ap (λ (h : Held). h.bytes) c.count_call.ensures.all)

pub returns-in-Err-clause-crash : goal.returns-in-Err-clause-crash
returns-in-Err-clause-crash c =
    subst (λ h. Leaves c.args.at (length c.args.piece.now) (may_hold h) (may_hold c.keep_failed.new.self))
    c.count_call.ensures.all c.keep_failed.ensures.crash

pub returns-in-Ok-clause-crash : goal.returns-in-Ok-clause-crash
returns-in-Ok-clause-crash c =
    let goes = goes_counted (λ _. Wrote c.args.at c.args.piece.now) c.args.self.now c.count_call.new.self c.lay.new.self _
    c.count_call.ensures.all c.in-Ok.ensures.goes in
    leaves_wrote c.args.at c.args.piece.now c.args.self.now c.lay.new.self goes
    (tears_laid c.args.at c.args.piece.now c.args.self.now.bytes c.lay.new.self.bytes
    (subst (λ h. Lays c.args.at c.args.piece.now h.bytes c.lay.new.self.bytes) c.count_call.ensures.all c.in-Ok.ensures.lays))

pub returns-in-Ok-clause-time : goal.returns-in-Ok-clause-time
returns-in-Ok-clause-time c =
    elapses_goes (Wrote c.args.at c.args.piece.now) c.args.self.now c.lay.new.self
    (goes_counted (λ _. Wrote c.args.at c.args.piece.now) c.args.self.now c.count_call.new.self c.lay.new.self _
    c.count_call.ensures.all c.in-Ok.ensures.goes)

pub returns-in-Err-lay-clause-bytes : goal.returns-in-Err-lay-clause-bytes
returns-in-Err-lay-clause-bytes c =
    torn_same c.args.at (length c.args.piece.now) c.args.self.now.bytes c.refuse.new.self.bytes
    (waits_refused c.args.self.now c.count_call.new.self c.lay.new.self c.refuse.new.self _ _
    c.count_call.ensures.all c.in-Err-lay.ensures.err c.refuse.ensures.all).bytes

pub returns-in-Err-lay-clause-crash : goal.returns-in-Err-lay-clause-crash
returns-in-Err-lay-clause-crash c =
    leaves_waits c.args.self.now c.refuse.new.self
    (waits_refused c.args.self.now c.count_call.new.self c.lay.new.self c.refuse.new.self _ _
    c.count_call.ensures.all c.in-Err-lay.ensures.err c.refuse.ensures.all) c.args.at (length c.args.piece.now)
