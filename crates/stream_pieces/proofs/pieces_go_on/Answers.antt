use Rattle.stream_pieces.proofs.SoFar.{nothing-so-far, a-piece-so-far, all-so-far}
use Rattle.stream_pieces.proofs.pieces_go_on.Goals as goal

pub returns : goal.returns
returns c = record { first = nothing-so-far; next = a-piece-so-far; last = all-so-far }
