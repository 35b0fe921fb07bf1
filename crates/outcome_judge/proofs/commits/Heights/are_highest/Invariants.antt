use Rattle.std.proofs.Common.{◌≡◌, drop}
use Rattle.std.specs.List.{list_all}
use Rattle.output_read.specs.Kept.{entries_of}
use Rattle.output_read.specs.declared.kept.KeptReply.{KeptReply}
use Rattle.outcome_counts.specs.Asked.{asked_at}
use Rattle.outcome_judge.specs.Conflicts.{is_highest}
use Rattle.outcome_judge.specs.HistoryKept.{place_in}
use Rattle.outcome_judge.specs.Writers.{numbers_of}
use Rattle.outcome_judge.proofs.commits.Heights.are_highest.Given as goal

abbrev pub invariant-loop-of : goal.invariant-loop-of
invariant-loop-of l = (none : KeptReply) → let entries = entries_of l.replies in
    list_all (λ of. is_highest entries (numbers_of entries (place_in of)) (asked_at l.replies l.at none) l.number) l.keys
    ≡ list_all (λ of. is_highest entries (numbers_of entries (place_in of)) (asked_at l.replies l.at none) l.number) (drop l.of-index l.keys)
