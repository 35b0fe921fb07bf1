use Rattle.std.proofs.Common.{◌-◌, IfSome, length}
use Rattle.output_read.specs.Kept.{entries_of}
use Rattle.outcome_counts.specs.Asked.{IsAsked}
use Rattle.outcome_counts.specs.LaterCommits.{AreLater}
use Rattle.outcome_counts.proofs.later_commits.LaterCommits.of.Given as goal

abbrev pub invariant-loop-back : goal.invariant-loop-back
invariant-loop-back l = AreLater (entries_of l.replies) l.back l.peaks.items × IfSome l.known (IsAsked l.replies (length l.replies - l.back))
