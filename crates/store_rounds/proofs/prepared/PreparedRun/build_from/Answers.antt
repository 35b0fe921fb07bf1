use Rattle.std.proofs.Common.{◌≡◌, true, sym, subst}
use Rattle.store_rounds.proofs.Scripts.{begun_valid, full_built, may_build}
use Rattle.workload_spec.specs.Valid.{is_valid}
use Rattle.workload_spec.specs.declared.script.Script.{Script}
use Rattle.store_rounds.proofs.prepared.PreparedRun.build_from.Goals as goal

pub build_from-built-requires-clause-size : goal.build_from-built-requires-clause-size
build_from-built-requires-clause-size c =
    let script = c.begin_with-script.result in
    let valid : is_valid script ≡ true = subst (λ (script : Script). is_valid script ≡ true) (sym c.begin_with-script.ensures) (begun_valid c.args.first c.args.script c.requires.written.valid) in
    may_build script c.into_vec.result.items c.of-crew.result valid c.into_vec.ensures c.of-crew.ensures

pub returns-in-Err-clause-full : goal.returns-in-Err-clause-full
returns-in-Err-clause-full c table is =
    full_built c.args.first c.args.script c.begin_with-script.result c.into_vec.result.items c.of-crew.result table c.begin_with-script.ensures c.into_vec.ensures c.of-crew.ensures (c.in-Err.ensures.full table is)
