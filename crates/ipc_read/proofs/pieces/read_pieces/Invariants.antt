use Rattle.std.proofs.Common.{take}
use Rattle.std.specs.Prelude.{flat_map}
use Rattle.stream_pieces.specs.Pieces.{ReadSoFar}
use Rattle.ipc_read.proofs.pieces.read_pieces.Given as goal

-- what the pieces so far read as
abbrev pub invariant-loop-piece : goal.invariant-loop-piece
invariant-loop-piece l = ReadSoFar
    (flat_map (λ piece. piece.items) (take l.piece-index l.pieces)) l.reader l.rows.items
