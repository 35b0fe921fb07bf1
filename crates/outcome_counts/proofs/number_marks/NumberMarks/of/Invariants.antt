use Rattle.std.proofs.Common.{◌-◌, IfSome}
use Rattle.output_read.specs.Kept.{entries_of}
use Rattle.outcome_counts.specs.Asked.{IsAsked}
use Rattle.outcome_counts.specs.NumberMarks.{AreNumberMarks}
use Rattle.outcome_counts.proofs.number_marks.NumberMarks.of.Given as goal

abbrev pub invariant-loop-place : goal.invariant-loop-place
invariant-loop-place l = AreNumberMarks (entries_of l.replies) l.place l.marks × IfSome l.known (IsAsked l.replies (l.place - 1))
