-- What every explained output of a generated workload tells, where no reply was refused memory.
use Rattle.std.specs.Prelude.{◌≡◌, ◌*◌, ◌≤◌, ℕ, false, List, ◌∷◌, [], All, IsSome, Ok}
use Rattle.cell_model.specs.declared.cell.Cell.{Cell}
use Rattle.isolation_spec.specs.Contents.{contents_of}
use Rattle.workload_spec.specs.declared.reply.Said.TheVariants as said
use Rattle.outcome_spec.specs.Entries.{Entry}
use Rattle.outcome_spec.specs.Explained.{Explained, replies_of}
use Rattle.outcome_spec.specs.Runs.{write_of}
use Rattle.outcome_spec.specs.Upkeep.{capacity_at}
use Rattle.bench_spec.specs.Counted.{counted, scanned, sum_of, was_refused}
use Rattle.bench_spec.specs.Generated.{bench_table, generated, writers}
use Rattle.bench_spec.specs.declared.counts.Counts.{Counts}
use Rattle.bench_laws.specs.Left.{left_by}

-- The replies of an explained output of the workload of a seed and a size: none of them was refused
-- memory, and the table takes the rows that the sessions insert.
pub record Undisturbed (seed size : ℕ) (text : List ℕ) (replies : List Entry) : Type 0 where
  pub fits : writers * size ≤ capacity_at (bench_table ∷ []) 0
  pub explained : Explained (generated seed size) text
  pub read : replies_of (generated seed size) text ≡ Ok replies
  pub unrefused : was_refused replies ≡ false

-- Each insert and each update is accepted.
abbrev pub WritesAreAccepted : Type 0
WritesAreAccepted = (seed size : ℕ) (text : List ℕ) (replies : List Entry)
    → Undisturbed seed size text replies
    → All (λ reply. IsSome (write_of reply.command) → reply.reply.said ≡ said.Accepted) replies

-- the rows that the workload's writes leave, when they are carried out in the order of its lines
abbrev pub rows_left : ℕ → ℕ → List (List Cell)
rows_left seed size = contents_of 0 (left_by (generated seed size))

-- The last round's scan tells the rows that the writes leave.
abbrev pub ScanTellsTheRows : Type 0
ScanTellsTheRows = (seed size : ℕ) (text : List ℕ) (replies : List Entry)
    → Undisturbed seed size text replies
    → scanned replies ≡ rows_left seed size

-- the counts of a seed and a size: each session commits in each round and adds a row, and the
-- export has each row
abbrev pub counts_of : ℕ → ℕ → Counts
counts_of seed size = record {
  commits = writers * size;
  rows = writers * size;
  sum = sum_of (rows_left seed size);
  exported = writers * size;
}

-- So what is counted is the same at each run.
abbrev pub CountsAreTheSame : Type 0
CountsAreTheSame = (seed size : ℕ) (text : List ℕ) (replies : List Entry)
    → Undisturbed seed size text replies
    → counted replies ≡ counts_of seed size
