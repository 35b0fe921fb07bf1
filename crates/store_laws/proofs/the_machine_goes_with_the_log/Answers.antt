use Rattle.store_laws.proofs.Machines.{commits_go_on, logs_follow}
use Rattle.store_laws.proofs.the_machine_goes_with_the_log.Goals as goal

pub returns-clause-follows : goal.returns-clause-follows
returns-clause-follows c = logs_follow

pub returns-clause-commits : goal.returns-clause-commits
returns-clause-commits c = commits_go_on
