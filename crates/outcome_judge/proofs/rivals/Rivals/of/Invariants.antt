use Rattle.output_read.specs.Kept.{entries_of}
use Rattle.outcome_judge.specs.Rivals.{AreRivals}
use Rattle.outcome_judge.proofs.rivals.Rivals.of.Given as goal

abbrev pub invariant-loop-place : goal.invariant-loop-place
invariant-loop-place l = AreRivals (entries_of l.replies) l.place l.rivals
