use Rattle.core_laws.proofs.Frames.Reached.{core_kept, core_opens}
use Rattle.core_laws.proofs.frame_laws.every_reached_core_holds.Goals as goal

pub returns-clause-opens : goal.returns-clause-opens
returns-clause-opens c = core_opens

pub returns-clause-keeps : goal.returns-clause-keeps
returns-clause-keeps c = core_kept
