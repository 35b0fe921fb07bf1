use Rattle.std.proofs.Common.{◌+◌, ◌≤◌, length}
use Rattle.piece_trials.proofs.pieces.read_by.Given as goal

-- the reader holds no more than it was fed
abbrev pub invariant-loop-piece : goal.invariant-loop-piece
invariant-loop-piece g l =
    (goal.iterator-loop-piece g).can_next l.piece-iterator ×
    (goal.iterator-loop-piece g).is_finite l.piece-iterator ×
    (l.reader.place + length l.reader.begun ≤ l.fed_bytes)
