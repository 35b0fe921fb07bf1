use Rattle.run_laws.proofs.Calls.Laying.{lends_are_laid}
use Rattle.run_laws.proofs.call_laws.lends_are_laid.Goals as goal

pub returns : goal.returns
returns c = lends_are_laid
