use Rattle.std.proofs.Common.{option_map, None}
use Rattle.program.specs.Outcome.{outside}
use Rattle.program.proofs.Opened.{unlogged_built}
use Rattle.store_rounds.specs.Logging.{LogsRounds}
use Rattle.program.proofs.running.run_unlogged.Goals as goal

pub returns-clause-ends : goal.returns-clause-ends
returns-clause-ends g c = λ left_old left_new.
    unlogged_built (option_map (λ p. p.now) c.args.path)
    (LogsRounds g.D.Disk.told g.D.Disk.moment g.D.Disk.left_since g.D.Disk.may_leave c.args.disk.now c.run_prepared.new.disk None c.in-Ok.run'.script.value)
    c.args.script c.in-Ok.run'.script.value c.run_prepared.result
    (outside left_old (g.O.Sink.written c.args.out.now) (g.X.Sink.written c.args.export.now) (g.X.Sink.started c.args.export.now))
    (outside left_new (g.O.Sink.written c.run_prepared.new.out) (g.X.Sink.written c.run_prepared.new.export) (g.X.Sink.started c.run_prepared.new.export))
    c.in-Ok.ensures.script_is c.in-Ok.ensures.runnable (c.run_prepared.ensures.ends left_old left_new)
