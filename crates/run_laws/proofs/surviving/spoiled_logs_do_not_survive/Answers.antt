use Rattle.run_laws.proofs.Recovery.Samples.{spoiled_do_not}
use Rattle.run_laws.proofs.surviving.spoiled_logs_do_not_survive.Goals as goal

pub returns : goal.returns
returns c = spoiled_do_not
