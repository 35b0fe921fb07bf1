use Rattle.core_laws.proofs.Logs.Logs.{opens, reaches}
use Rattle.core_laws.proofs.log_laws.every_state_is_sound.Goals as goal

pub returns-clause-opens : goal.returns-clause-opens
returns-clause-opens c = opens

pub returns-clause-reaches : goal.returns-clause-reaches
returns-clause-reaches c = reaches
