use Rattle.std.proofs.Common.{List, ℕ, Option, Bor, ap, option_map, subst, sym}
use Rattle.program.specs.Outcome.{ScriptEnds, of_disk, outside}
use Rattle.program.proofs.Opened.{unlogged_ends}
use Rattle.program.proofs.running.run_script.Goals as goal

pub returns-in-Some-clause-ends : goal.returns-in-Some-clause-ends
returns-in-Some-clause-ends g c = λ left_old left_new.
    subst (λ (log : Option (List ℕ)). ScriptEnds (option_map (λ p. p.now) c.args.path) log
    (of_disk g.D.Disk.told g.D.Disk.started g.D.Disk.may_leave g.D.Disk.moment g.D.Disk.left_since c.args.disk.now c.run_logged.new.disk) c.args.script c.run_logged.result
    (outside left_old (g.O.Sink.written c.args.out.now) (g.X.Sink.written c.args.export.now) (g.X.Sink.started c.args.export.now))
    (outside left_new (g.O.Sink.written c.run_logged.new.out) (g.X.Sink.written c.run_logged.new.export) (g.X.Sink.started c.run_logged.new.export)))
    (sym (ap (option_map (λ (p : Bor (List ℕ)). p.now)) c.in-Some.is))
    (c.run_logged.ensures.ends left_old left_new)

pub returns-in-None-clause-ends : goal.returns-in-None-clause-ends
returns-in-None-clause-ends g c = λ left_old left_new.
    subst (λ (log : Option (List ℕ)). ScriptEnds (option_map (λ p. p.now) c.args.path) log
    (of_disk g.D.Disk.told g.D.Disk.started g.D.Disk.may_leave g.D.Disk.moment g.D.Disk.left_since c.args.disk.now c.run_unlogged.new.disk) c.args.script c.run_unlogged.result
    (outside left_old (g.O.Sink.written c.args.out.now) (g.X.Sink.written c.args.export.now) (g.X.Sink.started c.args.export.now))
    (outside left_new (g.O.Sink.written c.run_unlogged.new.out) (g.X.Sink.written c.run_unlogged.new.export) (g.X.Sink.started c.run_unlogged.new.export)))
    (sym (ap (option_map (λ (p : Bor (List ℕ)). p.now)) c.in-None.is))
    (unlogged_ends (option_map (λ p. p.now) c.args.path)
    (of_disk g.D.Disk.told g.D.Disk.started g.D.Disk.may_leave g.D.Disk.moment g.D.Disk.left_since c.args.disk.now c.run_unlogged.new.disk)
    c.args.script c.run_unlogged.result
    (outside left_old (g.O.Sink.written c.args.out.now) (g.X.Sink.written c.args.export.now) (g.X.Sink.started c.args.export.now))
    (outside left_new (g.O.Sink.written c.run_unlogged.new.out) (g.X.Sink.written c.run_unlogged.new.export) (g.X.Sink.started c.run_unlogged.new.export))
    c.requires.written.begun (c.run_unlogged.ensures.ends left_old left_new))
