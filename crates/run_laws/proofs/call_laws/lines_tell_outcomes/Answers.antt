use Rattle.run_laws.proofs.Calls.Lines.{lines_tell}
use Rattle.run_laws.proofs.call_laws.lines_tell_outcomes.Goals as goal

pub returns : goal.returns
returns c = lines_tell
