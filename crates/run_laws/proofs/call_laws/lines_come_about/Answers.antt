use Rattle.run_laws.proofs.Calls.Coming.{lines_come_about}
use Rattle.run_laws.proofs.call_laws.lines_come_about.Goals as goal

pub returns : goal.returns
returns c = lines_come_about
