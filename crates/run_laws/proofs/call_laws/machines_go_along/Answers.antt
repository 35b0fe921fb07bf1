use Rattle.run_laws.proofs.Calls.Along.{machines_go_along}
use Rattle.run_laws.proofs.call_laws.machines_go_along.Goals as goal

pub returns : goal.returns
returns c = machines_go_along
