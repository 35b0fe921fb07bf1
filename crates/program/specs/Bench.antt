-- What a run of a generated workload was, of which the replies are counted.
use Rattle.std.specs.Prelude.{◌≡◌, ℕ, false, List, Ok}
use Rattle.outcome_spec.specs.Entries.{Entry}
use Rattle.outcome_spec.specs.Explained.{Explained, replies_of}
use Rattle.run_spec.specs.Occurrences.{Logged}
use Rattle.run_spec.specs.Ran.{Ran}
use Rattle.bench_spec.specs.Counted.{counted, was_refused}
use Rattle.bench_spec.specs.Generated.{generated}
use Rattle.bench_spec.specs.declared.counts.Counts.{Counts}
use Rattle.bench_laws.specs.Laws.{counts_of}

-- The workload that the seed and the size generate ran with some log of events and had this text,
-- which snapshot isolation explains. None of its replies says that memory was refused, and this is
-- what is counted of them: the counts of the seed and the size, the same at each run.
pub record RanGenerated (seed size : ℕ) (counts : Counts) : Type 0 where
  pub log : List Logged
  pub text : List ℕ
  pub ran : Ran (generated seed size) log text
  pub explained : Explained (generated seed size) text
  pub replies : List Entry
  pub read : replies_of (generated seed size) text ≡ Ok replies
  pub spared : was_refused replies ≡ false
  pub counted_are : counts ≡ counted replies
  pub same : counts ≡ counts_of seed size
