use Rattle.core_laws.proofs.Frames.Makes.{makes}
use Rattle.core_laws.proofs.frame_laws.events_make_by_what_they_touch.Goals as goal

pub returns : goal.returns
returns c = makes
