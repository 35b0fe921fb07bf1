use Rattle.run_laws.proofs.Commits.Shares.{histories_go_on, numbers_go_on}
use Rattle.run_laws.proofs.commit_laws.histories_go_on.Goals as goal

pub returns-clause-history : goal.returns-clause-history
returns-clause-history c = histories_go_on

pub returns-clause-numbers : goal.returns-clause-numbers
returns-clause-numbers c = numbers_go_on
