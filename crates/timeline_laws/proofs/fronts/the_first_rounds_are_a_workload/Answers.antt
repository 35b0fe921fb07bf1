use Rattle.timeline_laws.proofs.FirstRounds.{rounds-due-first, rounds-valid}
use Rattle.timeline_laws.proofs.fronts.the_first_rounds_are_a_workload.Goals as goal

pub returns-clause-due : goal.returns-clause-due
returns-clause-due c = rounds-due-first

pub returns-clause-valid : goal.returns-clause-valid
returns-clause-valid c = rounds-valid
