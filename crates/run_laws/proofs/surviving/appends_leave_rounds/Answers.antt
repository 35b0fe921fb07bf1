use Rattle.run_laws.proofs.Recovery.Laws.{appends_leave, rounds_go_on}
use Rattle.run_laws.proofs.surviving.appends_leave_rounds.Goals as goal

pub returns-clause-rounds : goal.returns-clause-rounds
returns-clause-rounds c = rounds_go_on

pub returns-clause-appends : goal.returns-clause-appends
returns-clause-appends c = appends_leave
