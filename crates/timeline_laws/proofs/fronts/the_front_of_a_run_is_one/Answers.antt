use Rattle.timeline_laws.proofs.FirstRounds.{runs-front}
use Rattle.timeline_laws.proofs.fronts.the_front_of_a_run_is_one.Goals as goal

pub returns : goal.returns
returns c = runs-front
