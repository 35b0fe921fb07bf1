use Rattle.stream_pieces.proofs.Stays.{end-stays}
use Rattle.stream_pieces.proofs.an_early_end_stays.Goals as goal

pub returns : goal.returns
returns c = end-stays
