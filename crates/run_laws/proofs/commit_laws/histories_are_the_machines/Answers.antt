use Rattle.run_laws.proofs.Commits.Histories.{histories_are, machines_lead}
use Rattle.run_laws.proofs.commit_laws.histories_are_the_machines.Goals as goal

pub returns-clause-leads : goal.returns-clause-leads
returns-clause-leads c = machines_lead

pub returns-clause-history : goal.returns-clause-history
returns-clause-history c = histories_are
