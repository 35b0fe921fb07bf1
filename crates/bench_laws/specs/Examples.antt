-- A worked example: an output of one round of writes to which the laws apply, and what they say of
-- it.
use Rattle.std.specs.Prelude.{◌≡◌, List, [], codes, pos, unwrap_or}
use Rattle.std.specs.Result.{result_ok}
use Rattle.outcome_spec.specs.Entries.{Entry}
use Rattle.outcome_spec.specs.Explained.{replies_of}
use Rattle.bench_spec.specs.Examples.{output_with, scan_with}
use Rattle.bench_spec.specs.Generated.{generated}
use Rattle.bench_laws.specs.Laws.{Undisturbed, counts_of}

-- the replies of an output of the workload of the seed 0 with one round of writes
abbrev pub replies_of_one_round : List Entry
replies_of_one_round = unwrap_or
    (result_ok (replies_of (generated 0 1)
    (output_with (codes "ok") (scan_with (codes "448"))))) []

abbrev pub OneRoundIsUndisturbed : Type 0
OneRoundIsUndisturbed = Undisturbed 0 1 (output_with (codes "ok") (scan_with (codes "448")))
    replies_of_one_round

-- the counts that the laws tell of that workload, from its writes alone
abbrev pub OneRoundHasItsCounts : Type 0
OneRoundHasItsCounts = counts_of 0 1 ≡ record { commits = 4; rows = 4; sum = pos 441; exported = 4 }
