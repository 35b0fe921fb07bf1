use Rattle.run_laws.proofs.Recovery.Laws.{survival_goes_on}
use Rattle.run_laws.proofs.surviving.survival_goes_on.Goals as goal

pub returns : goal.returns
returns c c' = survival_goes_on _ _ _ _
