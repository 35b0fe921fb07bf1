use Rattle.log_spec.proofs.Unique.{one_log}
use Rattle.log_spec.proofs.laws.bytes_are_one_log.Goals as goal

pub returns : goal.returns
returns c = one_log
