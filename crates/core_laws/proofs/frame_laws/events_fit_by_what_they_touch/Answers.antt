use Rattle.core_laws.proofs.Frames.Fitness.{local}
use Rattle.core_laws.proofs.frame_laws.events_fit_by_what_they_touch.Goals as goal

pub returns : goal.returns
returns c = local
