use Rattle.core_laws.proofs.Logs.Refusals.{freezes_exactly, full_exactly}
use Rattle.core_laws.proofs.log_laws.accepted_writes_are_refused_here_alone.Goals as goal

pub returns-clause-full : goal.returns-clause-full
returns-clause-full c = full_exactly

pub returns-clause-freezing : goal.returns-clause-freezing
returns-clause-freezing c = freezes_exactly
