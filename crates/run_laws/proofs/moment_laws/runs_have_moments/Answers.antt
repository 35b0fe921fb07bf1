use Rattle.run_laws.proofs.Moments.Rounds.{runs_have_moments}
use Rattle.run_laws.proofs.moment_laws.runs_have_moments.Goals as goal

pub returns : goal.returns
returns c = runs_have_moments
