use Rattle.std.proofs.Common.{◌-◌, length, take, drop}
use Rattle.output_read.specs.Kept.{entries_of}
use Rattle.outcome_counts.specs.Ends.{AreEnds, ended_of}
use Rattle.outcome_counts.proofs.Ended.{Known}
use Rattle.outcome_counts.proofs.ends.Ends.of.Given as goal

abbrev pub invariant-loop-back : goal.invariant-loop-back
invariant-loop-back l = record {
  known : Known (entries_of l.replies) (take (length l.replies - l.back) (entries_of l.replies)) (drop (length l.replies - l.back) (entries_of l.replies)) (ended_of l.ended);
  ends : AreEnds (entries_of l.replies) l.back l.backs.items;
}
