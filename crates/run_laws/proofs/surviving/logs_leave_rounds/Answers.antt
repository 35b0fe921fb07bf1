use Rattle.run_laws.proofs.Recovery.Samples.{files_give, first_left, logs_leave}
use Rattle.run_laws.proofs.surviving.logs_leave_rounds.Goals as goal

pub returns-clause-rounds : goal.returns-clause-rounds
returns-clause-rounds c = logs_leave

pub returns-clause-first : goal.returns-clause-first
returns-clause-first c = first_left

pub returns-clause-begins : goal.returns-clause-begins
returns-clause-begins c = files_give
