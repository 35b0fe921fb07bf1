use Rattle.run_laws.proofs.Commits.Rounds.{histories_fit, rounds_go_on}
use Rattle.run_laws.proofs.commit_laws.rounds_go_on_by_their_commits.Goals as goal

pub returns-clause-tables : goal.returns-clause-tables
returns-clause-tables c = histories_fit

pub returns-clause-rounds : goal.returns-clause-rounds
returns-clause-rounds c = rounds_go_on
