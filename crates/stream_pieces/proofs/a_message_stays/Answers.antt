use Rattle.stream_pieces.proofs.Stays.{message-stays}
use Rattle.stream_pieces.proofs.a_message_stays.Goals as goal

pub returns : goal.returns
returns c = message-stays
