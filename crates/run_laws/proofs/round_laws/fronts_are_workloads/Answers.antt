use Rattle.run_laws.proofs.Rounds.Fronts.{first_rounds_are_valid, fronts_are_valid}
use Rattle.run_laws.proofs.round_laws.fronts_are_workloads.Goals as goal

pub returns-clause-rounds : goal.returns-clause-rounds
returns-clause-rounds c = first_rounds_are_valid

pub returns-clause-lines : goal.returns-clause-lines
returns-clause-lines c = fronts_are_valid
