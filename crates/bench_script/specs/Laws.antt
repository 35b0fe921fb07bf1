-- What holds of every generated workload.
use Rattle.std.specs.Prelude.{◌≡◌, ◌<◌, ◌≤◌, ◌^◌, ℕ, length, Ok}
use Rattle.workload_spec.specs.Grammar.{script_of}
use Rattle.workload_spec.specs.ScriptText.{script_text}
use Rattle.workload_spec.specs.Valid.{IsWritten}
use Rattle.bench_spec.specs.Generated.{generated}

-- the most rounds of writes
abbrev pub most_size : ℕ
most_size = 4096

-- What is generated is a workload.
abbrev pub GeneratesWorkloads : Type 0
GeneratesWorkloads = (seed size : ℕ) → size ≤ most_size → IsWritten (generated seed size)

-- Its text is read as it.
abbrev pub TextsAreRead : Type 0
TextsAreRead = (seed size : ℕ) → size ≤ most_size
    → script_of (script_text (generated seed size)) ≡ Ok (generated seed size)

-- Its text is short.
abbrev pub TextsAreShort : Type 0
TextsAreShort = (seed size : ℕ) → size ≤ most_size
    → length (script_text (generated seed size)) < 2 ^ 32
