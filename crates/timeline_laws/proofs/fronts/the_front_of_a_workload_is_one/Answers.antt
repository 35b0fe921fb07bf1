use Rattle.timeline_laws.proofs.FirstRounds.{front-due-first, front-valid}
use Rattle.timeline_laws.proofs.fronts.the_front_of_a_workload_is_one.Goals as goal

pub returns-clause-due : goal.returns-clause-due
returns-clause-due c = front-due-first

pub returns-clause-valid : goal.returns-clause-valid
returns-clause-valid c = front-valid
