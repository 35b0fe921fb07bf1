use Rattle.output_read.specs.Kept.{entries_of}
use Rattle.outcome_judge.specs.Writers.{AreNumbers}
use Rattle.outcome_judge.proofs.writers.Written.numbers.Given as goal

abbrev pub invariant-loop-at : goal.invariant-loop-at
invariant-loop-at l = AreNumbers (entries_of l.replies) l.at l.numbers
