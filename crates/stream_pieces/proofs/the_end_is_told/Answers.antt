use Rattle.stream_pieces.proofs.SoFar.{end-is-told}
use Rattle.stream_pieces.proofs.the_end_is_told.Goals as goal

pub returns : goal.returns
returns c = end-is-told
