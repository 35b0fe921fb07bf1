use Rattle.run_laws.proofs.Explained.Explaining.{runs_are_explained}
use Rattle.run_laws.proofs.explained_laws.runs_are_explained.Goals as goal

pub returns : goal.returns
returns c = runs_are_explained
