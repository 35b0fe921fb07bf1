use Rattle.core_laws.proofs.Frames.Frames.{frame}
use Rattle.core_laws.proofs.frame_laws.events_change_what_they_touch.Goals as goal

pub returns : goal.returns
returns c = frame
