use Rattle.timeline_laws.proofs.FirstRounds.{front-explained}
use Rattle.timeline_laws.proofs.fronts.the_front_of_a_run_is_explained.Goals as goal

pub returns : goal.returns
returns c = front-explained
