use Rattle.timeline_laws.proofs.Scripts.{timeline-read}
use Rattle.timeline_laws.proofs.laws.a_timeline_is_read.Goals as goal

pub returns : goal.returns
returns c = timeline-read
