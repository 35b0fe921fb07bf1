use Rattle.timeline_laws.proofs.Scripts.{run-explained}
use Rattle.timeline_laws.proofs.laws.a_run_is_explained.Goals as goal

pub returns : goal.returns
returns c = run-explained
