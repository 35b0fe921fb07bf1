use Rattle.std.proofs.Common.{◌≡◌, drop}
use Rattle.std.specs.List.{list_any}
use Rattle.output_read.specs.Kept.{entries_of}
use Rattle.outcome_judge.specs.HistoryKept.{place_in}
use Rattle.outcome_judge.specs.Writers.{is_number_in, numbers_of}
use Rattle.outcome_judge.proofs.commits.Numbers.wrote_one.Given as goal

abbrev pub invariant-loop-of : goal.invariant-loop-of
invariant-loop-of l =
    list_any (λ of. is_number_in (numbers_of (entries_of l.replies) (place_in of)) l.number) l.keys
    ≡ list_any (λ of. is_number_in (numbers_of (entries_of l.replies) (place_in of)) l.number) (drop l.of-index l.keys)
