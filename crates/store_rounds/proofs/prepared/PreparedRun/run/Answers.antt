use Rattle.store_rounds.specs.Logging.{LogsRounds, OfLogged}
use Rattle.store_rounds.specs.Runs.{RunsIn}
use Rattle.store_rounds.specs.Workloads.{WentBy}
use Rattle.store_rounds.proofs.Going.{on_part}
use Rattle.workload_spec.specs.declared.script.Script.{Script}
use Rattle.store_rounds.proofs.prepared.PreparedRun.run.Goals as goal

pub returns-clause-part : goal.returns-clause-part
returns-clause-part g c =
    let script : Script = c.args.self.script.value in
    let logs : OfLogged = LogsRounds g.D.Disk.told g.D.Disk.moment g.D.Disk.left_since g.D.Disk.may_leave c.args.disk.now c.run_rounds.new.disk c.args.log script in
    on_part
    (RunsIn script c.args.self.store c.run_rounds.new.row (g.X.Sink.written c.args.outlet.now) (g.X.Sink.written c.run_rounds.new.outlet) logs)
    (WentBy script (g.X.Sink.written c.args.outlet.now) (g.X.Sink.written c.run_rounds.new.outlet) logs)
    (λ asked ran added printed text runs. record { went = runs.went; logs = runs.logs })
    script (g.O.Sink.written c.args.out.now) (g.O.Sink.written c.run_rounds.new.out) c.run_rounds.result c.run_rounds.ensures.part
