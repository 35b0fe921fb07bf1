use Rattle.std.proofs.Common.{take, length}
use Rattle.isolation_spec.specs.Contents.{numbers_between}
use Rattle.output_read.specs.Kept.{entries_of}
use Rattle.si_machine.proofs.Sums.{Summed}
use Rattle.outcome_judge.specs.KeyLists.{rows_at}
use Rattle.outcome_judge.specs.Seen.{seen_up_to}
use Rattle.outcome_judge.proofs.sights.Sights.is_total_at.Given as goal

abbrev pub invariant-loop-of : goal.invariant-loop-of
invariant-loop-of l =
    Summed l.count l.sum l.of-index (numbers_between l.asked.column l.asked.low l.asked.high (rows_at (seen_up_to l.openings (entries_of l.replies) (length l.replies) l.opening l.at) (take l.of-index l.keys)))
