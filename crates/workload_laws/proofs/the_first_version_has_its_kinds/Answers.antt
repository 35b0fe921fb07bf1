use Rattle.workload_laws.proofs.FirstKinds.{first_kinds_stand}
use Rattle.workload_laws.proofs.the_first_version_has_its_kinds.Goals as goal

pub returns : goal.returns
returns c = first_kinds_stand
