use Rattle.std.proofs.Common.{◌≡◌, drop, length, None}
use Rattle.output_read.specs.Kept.{entries_of}
use Rattle.outcome_judge.specs.ReadsJudged.{are_found}
use Rattle.outcome_judge.specs.Seen.{seen_up_to}
use Rattle.outcome_judge.proofs.sights.Sights.are_found.Given as goal

abbrev pub invariant-loop-row : goal.invariant-loop-row
invariant-loop-row l = are_found l.table (seen_up_to l.openings (entries_of l.replies) (length l.replies) l.opening l.at) None l.rows
    ≡ are_found l.table (seen_up_to l.openings (entries_of l.replies) (length l.replies) l.opening l.at) l.last (drop l.row-index l.rows)
