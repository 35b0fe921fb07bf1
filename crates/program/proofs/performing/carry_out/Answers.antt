use Rattle.std.proofs.Common.{ℕ, ap, subst, sym}
use Rattle.program.specs.Outcome.{BenchEnds, CheckEnds, ShowEnds, TellsFaults, TextEnds, UsageEnds}
use Rattle.program.specs.Words.{help_text, version_line}
use Rattle.program.specs.declared.status.Status.TheVariants as status
use Rattle.program.proofs.Disks.{is_left, same_reads}
use Rattle.program.proofs.Flushes.{no_log_fault}
use Rattle.program.proofs.Unjudged.{ends-unjudged}
use Rattle.program.proofs.performing.carry_out.Goals as goal

pub returns-in-Ok-Show-clause-log_faults : goal.returns-in-Ok-Show-clause-log_faults
returns-in-Ok-Show-clause-log_faults g c =
    no_log_fault ShowEnds (λ before now no. no) c.show.result _ _
    (c.show.ensures.ends (g.X.Sink.written c.args.export.now) (g.X.Sink.started c.args.export.now))
    (g.D.Disk.faults c.args.disk.now)

pub returns-in-Ok-Check-clause-log_faults : goal.returns-in-Ok-Check-clause-log_faults
returns-in-Ok-Check-clause-log_faults g c =
    no_log_fault CheckEnds (λ before now no. no) c.check.result _ _
    (c.check.ensures.ends (g.X.Sink.written c.args.export.now) (g.X.Sink.started c.args.export.now))
    (g.D.Disk.faults c.args.disk.now)

pub returns-in-Ok-Bench-clause-log_faults : goal.returns-in-Ok-Bench-clause-log_faults
returns-in-Ok-Bench-clause-log_faults g c =
    subst (λ (faults : ℕ). TellsFaults status.LogFault c.bench.result (g.D.Disk.faults c.args.disk.now) faults)
    (ap g.D.Disk.faults (sym c.bench.ensures.left))
    (no_log_fault (BenchEnds c.in-Ok-Bench.seed c.in-Ok-Bench.size) (λ before now no. no)
    c.bench.result _ _
    (c.bench.ensures.ends (g.S.Source.left c.args.source.now)
    (g.X.Sink.written c.args.export.now) (g.X.Sink.started c.args.export.now))
    (g.D.Disk.faults c.args.disk.now))

pub returns-in-Ok-Bench-clause-reads : goal.returns-in-Ok-Bench-clause-reads
returns-in-Ok-Bench-clause-reads g c = λ keeps.
    same_reads g.D.Disk.told g.D.Disk.may_leave g.D.Disk.moment g.D.Disk.left_since g.met.D.Disk.only_now
    c.args.disk.now c.bench.new.disk c.bench.ensures.left

pub returns-in-Ok-Help-clause-log_faults : goal.returns-in-Ok-Help-clause-log_faults
returns-in-Ok-Help-clause-log_faults g c =
    no_log_fault (TextEnds help_text) (λ before now no. no) c.tell_help.result _ _
    (c.tell_help.ensures.ends (g.S.Source.left c.args.source.now)
    (g.X.Sink.written c.args.export.now) (g.X.Sink.started c.args.export.now))
    (g.D.Disk.faults c.args.disk.now)

pub returns-in-Ok-Version-clause-log_faults : goal.returns-in-Ok-Version-clause-log_faults
returns-in-Ok-Version-clause-log_faults g c =
    no_log_fault (TextEnds version_line) (λ before now no. no) c.tell_version.result _ _
    (c.tell_version.ensures.ends (g.S.Source.left c.args.source.now)
    (g.X.Sink.written c.args.export.now) (g.X.Sink.started c.args.export.now))
    (g.D.Disk.faults c.args.disk.now)

pub returns-in-Err-Usage-clause-log_faults : goal.returns-in-Err-Usage-clause-log_faults
returns-in-Err-Usage-clause-log_faults g c =
    no_log_fault UsageEnds (λ before now no. no) c.tell_usage.result _ _
    (c.tell_usage.ensures.ends (g.S.Source.left c.args.source.now)
    (g.X.Sink.written c.args.export.now) (g.X.Sink.started c.args.export.now))
    (g.D.Disk.faults c.args.disk.now)

pub returns-clause-ends : goal.returns-clause-ends
returns-clause-ends g c =
    ends-unjudged _ _
    (is_left g.D.Disk.told g.D.Disk.may_leave g.D.Disk.moment g.D.Disk.left_since g.met.D.Disk.only_now g.D.Disk.started c.args.disk.now)
    (g.S.Source.left c.args.source.now) (g.O.Sink.written c.args.out.now)
    (g.X.Sink.written c.args.export.now) (g.X.Sink.started c.args.export.now)
