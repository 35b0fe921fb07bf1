use Rattle.std.proofs.Common.{◌≡◌, Some, inl, inr, option_map, refl}
use Rattle.store_rounds.specs.Logging.{LogsRounds}
use Rattle.store_rounds.specs.Prepared.{begun_with}
use Rattle.workload_spec.specs.declared.script.Script.{Script}
use Rattle.program.specs.Outcome.{outside}
use Rattle.program.proofs.Opened.{too_large_ends}
use Rattle.program.proofs.Surviving.{stands_through}
use Rattle.program.proofs.running.run_opened.Goals as goal

pub returns-in-Err-Full-clause-ends : goal.returns-in-Err-Full-clause-ends
returns-in-Err-Full-clause-ends g c = λ left_old left_new.
    too_large_ends (option_map (λ p. p.now) c.args.path) (c.args.disk.now ≡ c.args.disk.now)
    (λ (script : Script). LogsRounds g.D.Disk.told g.D.Disk.moment g.D.Disk.left_since g.D.Disk.may_leave c.args.disk.now c.args.disk.now (Some c.args.opened.log) script)
    (begun_with c.args.opened.commits c.args.script) c.tell_too_large.result
    (outside left_old (g.O.Sink.written c.args.out.now) (g.X.Sink.written c.args.export.now) (g.X.Sink.started c.args.export.now))
    (outside left_new (g.O.Sink.written c.tell_too_large.new.out) (g.X.Sink.written c.args.export.now) (g.X.Sink.started c.args.export.now))
    c.in-Err-Full.field-0-0 (c.in-Err-Full.ensures.full c.in-Err-Full.field-0-0 c.in-Err-Full.field-0-is) refl
    (stands_through g.D.Disk.told g.D.Disk.may_leave g.D.Disk.moment g.D.Disk.left_since g.met.D.Disk.only_now c.args.disk.now
    (Some c.args.opened.log) (begun_with c.args.opened.commits c.args.script))
    (record { exported = refl; started = refl }) c.tell_too_large.ensures.spared c.tell_too_large.ensures.ends

pub returns-in-Err-Memory-clause-ends : goal.returns-in-Err-Memory-clause-ends
returns-in-Err-Memory-clause-ends g c = λ left_old left_new. inr (inl (record {
  told = refl;
  silent = record { printed = refl; outlet = record { exported = refl; started = refl } };
  logs = stands_through g.D.Disk.told g.D.Disk.may_leave g.D.Disk.moment g.D.Disk.left_since g.met.D.Disk.only_now c.args.disk.now
      (Some c.args.opened.log) (begun_with c.args.opened.commits c.args.script);
}))
