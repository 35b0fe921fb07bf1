use Rattle.stream_pieces.proofs.Over.{done-is-over, going-is-open}
use Rattle.stream_pieces.proofs.what_is_over_is_decided.Goals as goal

pub returns : goal.returns
returns c = record { over = done-is-over; going = going-is-open }
