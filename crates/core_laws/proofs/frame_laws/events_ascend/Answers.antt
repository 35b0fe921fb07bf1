use Rattle.core_laws.proofs.Frames.Order.{ascends}
use Rattle.core_laws.proofs.frame_laws.events_ascend.Goals as goal

pub returns : goal.returns
returns c = ascends
