use Rattle.std.proofs.Common.{◌≡◌, drop, length}
use Rattle.std.specs.Cmp.Lexicographic.{pointwise}
use Rattle.outcome_spec.specs.Answers.{is_row}
use Rattle.output_read.specs.Kept.{entries_of}
use Rattle.outcome_judge.specs.KeyLists.{rows_at}
use Rattle.outcome_judge.specs.Seen.{seen_up_to}
use Rattle.outcome_judge.proofs.sights.Sights.are_rows_at.Given as goal

abbrev pub invariant-loop-of : goal.invariant-loop-of
invariant-loop-of l = let seen = seen_up_to l.openings (entries_of l.replies) (length l.replies) l.opening l.at in
    pointwise is_row l.rows (rows_at seen l.keys) ≡ pointwise is_row l.rest (rows_at seen (drop l.of-index l.keys))
