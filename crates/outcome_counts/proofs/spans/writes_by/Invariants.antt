use Rattle.std.proofs.Common.{ℕ}
use Rattle.std.specs.Ordering.{nat_cmp}
use Rattle.mark_index.specs.Lists.{marks_at}
use Rattle.mark_index.specs.Marks.{AreCounted}
use Rattle.output_read.specs.Kept.{entries_of}
use Rattle.outcome_counts.specs.Written.{is_write_by}
use Rattle.outcome_counts.proofs.spans.writes_by.Given as goal

abbrev pub invariant-loop-place : goal.invariant-loop-place
invariant-loop-place l = (session : ℕ) → AreCounted (is_write_by session) (entries_of l.replies) l.place (marks_at nat_cmp l.writes session)
