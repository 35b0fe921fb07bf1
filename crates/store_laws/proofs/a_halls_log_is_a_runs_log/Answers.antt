use Rattle.store_laws.proofs.Entries.{logs_are_runs}
use Rattle.store_laws.proofs.a_halls_log_is_a_runs_log.Goals as goal

pub returns : goal.returns
returns c = logs_are_runs
