use Rattle.std.proofs.Common.{ℕ}
use Rattle.std.specs.BTreeMap.{get}
use Rattle.std.specs.Ordering.{nat_cmp}
use Rattle.output_read.specs.Kept.{entries_of}
use Rattle.outcome_judge.proofs.Noting.{IsLine}
use Rattle.outcome_judge.proofs.lines.lines_of.Given as goal

abbrev pub invariant-loop-place : goal.invariant-loop-place
invariant-loop-place l = (number : ℕ) → IsLine (entries_of l.replies) l.place number (get nat_cmp l.lines number)
