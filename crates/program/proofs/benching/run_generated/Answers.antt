use Rattle.std.proofs.Common.{◌<◌, ◌^◌, ◌∙◌, length, subst, sym, ap, List, ℕ, None, false}
use Rattle.std.proofs.lemmas.Result.{IfOk-weaker}
use Rattle.workload_spec.specs.ScriptText.{script_text}
use Rattle.workload_spec.specs.declared.script.Script.{Script}
use Rattle.workload_spec.specs.Valid.{IsWritten, is_valid}
use Rattle.bench_counts.specs.Told.{IsTold}
use Rattle.store_rounds.specs.Logging.{LogsRounds}
use Rattle.store_rounds.specs.Prepared.{IsPrepared}
use Rattle.program.proofs.Benched.{ran_generated}
use Rattle.program.proofs.benching.run_generated.Goals as goal

pub build-requires : goal.build-requires
build-requires g c =
    subst IsWritten (sym c.in_ok-script.ensures) (c.what_is_generated_is_a_workload.ensures c.args.seed c.args.size c.requires)

pub run-requires-clause-short : goal.run-requires-clause-short
run-requires-clause-short g c κs within =
    subst (λ (s : Script). length (script_text s) < 2 ^ 32) (sym (c.in_ok-run.ensures.script_is ∙ c.in_ok-script.ensures))
    (c.the_text_is_short.ensures c.args.seed c.args.size c.requires)

pub run-requires-clause-prepared : goal.run-requires-clause-prepared
run-requires-clause-prepared g c κs within =
    let ready : IsPrepared c.in_ok-script.script false c.in_ok-run.run' = c.in_ok-run.ensures in
    subst (λ (s : Script). IsPrepared s false c.in_ok-run.run') (sym ready.script_is) ready

pub count_replies-requires-clause-valid : goal.count_replies-requires-clause-valid
count_replies-requires-clause-valid g c =
    ap is_valid c.in_ok-script-2.ensures ∙ (c.what_is_generated_is_a_workload.ensures c.args.seed c.args.size c.requires).valid

pub returns-clause-ran : goal.returns-clause-ran
returns-clause-ran g c =
    let script = c.in_ok-run.run'.script.value in
    IfOk-weaker c.count_replies.result _ _
    (λ told tells. ran_generated c.args.seed c.args.size script c.in_ok-script-2.script c.new-output.result.bytes.items c.run.new.out.bytes.items None None
    (LogsRounds g.D.Disk.told g.D.Disk.moment g.D.Disk.left_since g.D.Disk.may_leave c.args.disk.now c.run.new.disk None script) told
    c.requires (c.in_ok-run.ensures.script_is ∙ c.in_ok-script.ensures) c.in_ok-script-2.ensures c.new-output.ensures c.in-Ok.ensures.whole
    (subst (λ (output : List ℕ). IsTold c.in_ok-script-2.script output told) c.as_slice.ensures tells))
    c.count_replies.ensures
