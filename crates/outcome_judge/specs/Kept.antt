-- What is kept of all replies of an output, by which each of them is judged.
use Rattle.std.specs.Prelude.{ℕ, List}
use Rattle.outcome_spec.specs.Entries.{Entry}
use Rattle.outcome_counts.specs.BlockMarks.{AreBlockMarks}
use Rattle.outcome_counts.specs.LaterCommits.{AreLater}
use Rattle.outcome_counts.specs.NumberMarks.{AreNumberMarks}
use Rattle.outcome_counts.specs.Prunes.{ArePrunes}
use Rattle.outcome_counts.specs.Written.{AreSpans}
use Rattle.outcome_judge.specs.declared.counts.Counts.{Counts}
use Rattle.outcome_judge.specs.declared.shared.Shared.{Shared}

-- What every judgement asks is of the first so many replies.
pub record AreShared (entries : List Entry) (taken : ℕ) (shared : Shared) : Type 0 where
  pub blocks : AreBlockMarks entries taken shared.blocks
  pub spans : AreSpans entries taken shared.spans

-- What is counted are the first so many replies.
pub record AreCounts (entries : List Entry) (taken : ℕ) (counts : Counts) : Type 0 where
  pub shared : AreShared entries taken counts.shared.now
  pub numbers : AreNumberMarks entries taken counts.numbers
  pub later : AreLater entries taken counts.later.peaks.items
  pub prunes : ArePrunes entries taken counts.prunes
