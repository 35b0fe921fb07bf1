use Rattle.core_laws.proofs.Logs.Logs.{replies_as_the_machine}
use Rattle.core_laws.proofs.log_laws.replies_are_the_machines.Goals as goal

pub returns : goal.returns
returns c = replies_as_the_machine
