use Rattle.std.proofs.Common.{◌≡◌, drop}
use Rattle.std.specs.List.{list_all}
use Rattle.output_read.specs.Kept.{entries_of}
use Rattle.outcome_judge.specs.Conflicts.{is_first}
use Rattle.outcome_judge.specs.HistoryKept.{place_in}
use Rattle.outcome_judge.specs.Writers.{numbers_of}
use Rattle.outcome_judge.proofs.commits.Numbers.are_first.Given as goal

abbrev pub invariant-loop-of : goal.invariant-loop-of
invariant-loop-of l =
    list_all (λ of. is_first l.t (numbers_of (entries_of l.replies) (place_in of))) l.keys
    ≡ list_all (λ of. is_first l.t (numbers_of (entries_of l.replies) (place_in of))) (drop l.of-index l.keys)
