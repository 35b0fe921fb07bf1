use Rattle.log_spec.proofs.Commits.{one_group}
use Rattle.log_spec.proofs.Unique.{one_history}
use Rattle.log_spec.proofs.laws.bytes_give_one_history.Goals as goal

pub returns-clause-payload : goal.returns-clause-payload
returns-clause-payload c = one_group

pub returns-clause-bytes : goal.returns-clause-bytes
returns-clause-bytes c = one_history
