use Rattle.output_read.specs.Kept.{entries_of}
use Rattle.outcome_judge.specs.Seen.{AreSights}
use Rattle.outcome_judge.proofs.sights.Sights.of.Given as goal

abbrev pub invariant-loop-place : goal.invariant-loop-place
invariant-loop-place l = AreSights l.openings (entries_of l.replies) l.place l.sights
