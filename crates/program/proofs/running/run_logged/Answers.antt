use Rattle.std.proofs.Common.{◌≡◌, ◌≢◌, ◌∙◌, List, [], Some, Err, ap, is_err, option_map, refl, subst}
use Rattle.std.specs.Prelude.{IsErrOf}
use Rattle.std.specs.Option.{ForSome}
use Rattle.cell_model.specs.declared.table.TableDecl.{TableDecl}
use Rattle.commit_log.specs.Commits.{StandsOf}
use Rattle.log_spec.specs.Reading.{IsNoLog}
use Rattle.log_text.specs.Lines.{log_text}
use Rattle.run_laws.specs.Recovery.Leaves.{BeginsWith}
use Rattle.store_rounds.specs.Logging.{LogsRounds}
use Rattle.store_rounds.specs.Prepared.{begun_with}
use Rattle.program.specs.Outcome.{of_disk, outside}
use Rattle.program.specs.Played.{LineEnds}
use Rattle.program.specs.declared.status.Status.TheVariants as status
use Rattle.program.proofs.Opened.{no_log_ends, opened_ends}
use Rattle.program.proofs.Surviving.{full_reads, survives}
use Rattle.program.proofs.running.run_logged.Goals as goal

pub returns-in-Ok-clause-ends : goal.returns-in-Ok-clause-ends
returns-in-Ok-clause-ends g c = λ left_old left_new.
    let first = c.in-Ok.opened.commits in
    let script = begun_with first c.args.script in
    opened_ends (option_map (λ p. p.now) c.args.path) c.args.log_path.now
    (of_disk g.D.Disk.told g.D.Disk.started g.D.Disk.may_leave g.D.Disk.moment g.D.Disk.left_since c.args.disk.now c.run_opened.new.disk)
    c.args.script first
    (LogsRounds g.D.Disk.told g.D.Disk.moment g.D.Disk.left_since g.D.Disk.may_leave c.open_log.new.disk c.run_opened.new.disk (Some c.in-Ok.opened.log) script)
    (c.run_opened.new.disk ≡ c.open_log.new.disk)
    (outside left_old (g.O.Sink.written c.args.out.now) (g.X.Sink.written c.args.export.now) (g.X.Sink.started c.args.export.now))
    (outside left_new (g.O.Sink.written c.run_opened.new.out) (g.X.Sink.written c.run_opened.new.export) (g.X.Sink.started c.run_opened.new.export)) (
      c.run_opened.ensures.started ∙ c.in-Ok.ensures.started (λ is. let no : ⊥ = cc in no),
      subst (λ (tables : List TableDecl). BeginsWith tables (g.D.Disk.told c.args.disk.now) first) c.as_slice.ensures c.in-Ok.ensures.begins,
    )
    (λ rounds printed logs. survives g.D.Disk.told g.D.Disk.may_leave g.D.Disk.moment g.D.Disk.left_since
    c.args.disk.now c.open_log.new.disk c.run_opened.new.disk script rounds printed
    c.open_log.ensures.later first c.in-Ok.ensures.reads c.in-Ok.opened.log
    (λ some. subst (λ (tables : List TableDecl). StandsOf tables (g.D.Disk.told c.open_log.new.disk) (g.D.Disk.may_leave c.open_log.new.disk) first c.in-Ok.opened.log)
    c.as_slice.ensures (c.in-Ok.ensures.stands some))
    logs)
    (λ same table full. full_reads g.D.Disk.told g.D.Disk.may_leave g.D.Disk.moment g.D.Disk.left_since
    c.args.disk.now c.open_log.new.disk c.run_opened.new.disk c.args.script first table full c.in-Ok.ensures.reads same)
    c.run_opened.result (c.run_opened.ensures.ends left_old left_new)

pub returns-in-Err-NotALog-clause-ends : goal.returns-in-Err-NotALog-clause-ends
returns-in-Err-NotALog-clause-ends g c = λ left_old left_new.
    let place = c.in-Err-NotALog.place in
    let is : IsErrOf c.open_log.result _ = c.in-Err-NotALog.is ∙ ap (λ fault. Err fault) c.in-Err-NotALog.field-0-is in
    no_log_ends (option_map (λ p. p.now) c.args.path) c.args.log_path.now
    (of_disk g.D.Disk.told g.D.Disk.started g.D.Disk.may_leave g.D.Disk.moment g.D.Disk.left_since c.args.disk.now c.open_log.new.disk)
    c.args.script place
    (outside left_old (g.O.Sink.written c.args.out.now) (g.X.Sink.written c.args.export.now) (g.X.Sink.started c.args.export.now))
    (outside left_new (g.O.Sink.written c.tell_no_log.new.out) (g.X.Sink.written c.args.export.now) (g.X.Sink.started c.args.export.now))
    (c.open_log.ensures.started (λ disk. let no : ⊥ = cc in no))
    (subst (λ (tables : List TableDecl). ForSome (g.D.Disk.told c.args.disk.now) (λ bytes. (bytes ≢ []) × IsNoLog tables bytes place))
    c.as_slice.ensures (c.open_log.ensures.none place is))
    (c.open_log.ensures.left (ap is_err c.in-Err-NotALog.is) (λ disk. let no : ⊥ = cc in no))
    (record { exported = refl; started = refl }) c.tell_no_log.result
    (subst (λ (tables : List TableDecl). LineEnds status.NotALog (log_text tables [] (Some place)) c.tell_no_log.result (g.O.Sink.written c.args.out.now) (g.O.Sink.written c.tell_no_log.new.out))
    c.as_slice-in-Err-NotALog.ensures c.tell_no_log.ensures.ends)
