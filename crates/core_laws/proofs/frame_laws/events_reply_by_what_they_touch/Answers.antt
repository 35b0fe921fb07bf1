use Rattle.core_laws.proofs.Frames.Replies.{replies}
use Rattle.core_laws.proofs.frame_laws.events_reply_by_what_they_touch.Goals as goal

pub returns : goal.returns
returns c = replies
