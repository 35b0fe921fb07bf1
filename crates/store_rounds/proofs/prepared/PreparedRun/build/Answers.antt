use Rattle.store_rounds.proofs.Scripts.{crew_some, may_build}
use Rattle.store_rounds.proofs.prepared.PreparedRun.build.Goals as goal

pub build-requires-clause-size : goal.build-requires-clause-size
build-requires-clause-size c = may_build c.args.script c.into_vec.result.items c.of-crew.result c.requires.valid c.into_vec.ensures c.of-crew.ensures

pub build-requires-clause-some : goal.build-requires-clause-some
build-requires-clause-some c = crew_some c.args.script c.of-crew.result c.requires.valid c.of-crew.ensures
