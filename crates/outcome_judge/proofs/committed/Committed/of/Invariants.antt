use Rattle.output_read.specs.Kept.{entries_of}
use Rattle.outcome_judge.specs.Commits.{AreCommits}
use Rattle.outcome_judge.proofs.committed.Committed.of.Given as goal

abbrev pub invariant-loop-at : goal.invariant-loop-at
invariant-loop-at l = AreCommits l.openings (entries_of l.replies) l.at l.committed.writes
