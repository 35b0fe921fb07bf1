use Rattle.run_laws.proofs.Calls.Named.{runs_go_along}
use Rattle.run_laws.proofs.call_laws.runs_go_along.Goals as goal

pub returns : goal.returns
returns c = runs_go_along
