use Rattle.run_laws.proofs.Calls.Moments.{moments_are_the_round}
use Rattle.run_laws.proofs.call_laws.moments_are_the_round.Goals as goal

pub returns : goal.returns
returns c = moments_are_the_round
