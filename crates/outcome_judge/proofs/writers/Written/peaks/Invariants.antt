use Rattle.output_read.specs.Kept.{entries_of}
use Rattle.outcome_judge.specs.Writers.{ArePeaksUpTo}
use Rattle.outcome_judge.proofs.writers.Written.peaks.Given as goal

abbrev pub invariant-loop-place : goal.invariant-loop-place
invariant-loop-place l = ArePeaksUpTo (entries_of l.replies) l.place l.peaks
