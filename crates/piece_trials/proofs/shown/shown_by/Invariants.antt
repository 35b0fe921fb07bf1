use Rattle.std.proofs.Common.{◌+◌, ◌≤◌, length}
use Rattle.piece_trials.proofs.shown.shown_by.Given as goal

-- the reader holds no more than it was fed
abbrev pub invariant-loop-piece : goal.invariant-loop-piece
invariant-loop-piece l =
    goal.iterator-loop-piece.can_next l.piece-iterator ×
    goal.iterator-loop-piece.is_finite l.piece-iterator ×
    (l.showing.reader.place + length l.showing.reader.begun ≤ l.fed_bytes)
