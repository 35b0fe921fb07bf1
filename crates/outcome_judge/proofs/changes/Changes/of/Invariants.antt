use Rattle.output_read.specs.Kept.{entries_of}
use Rattle.outcome_judge.specs.Own.{AreChanges}
use Rattle.outcome_judge.proofs.changes.Changes.of.Given as goal

abbrev pub invariant-loop-place : goal.invariant-loop-place
invariant-loop-place l = AreChanges l.openings (entries_of l.replies) l.place l.changes
