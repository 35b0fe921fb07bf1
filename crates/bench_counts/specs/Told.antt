-- What is told of an output's replies.
use Rattle.std.specs.Prelude.{◌≡◌, ℕ, List, Option, None, Some, Ok, if◌then◌else◌}
use Rattle.workload_spec.specs.declared.script.Script.{Script}
use Rattle.outcome_spec.specs.Entries.{Entry}
use Rattle.outcome_spec.specs.Explained.{replies_of}
use Rattle.bench_spec.specs.Counted.{counted, was_refused}
use Rattle.bench_spec.specs.declared.counts.Counts.{Counts}

-- what is counted of replies; nothing where one was refused memory
abbrev pub told_of : List Entry → Option Counts
told_of replies = if was_refused replies then None else Some (counted replies)

-- It is told of the replies that the output's lines are.
pub record IsTold (script : Script) (output : List ℕ) (told : Option Counts) : Type 0 where
  pub replies : List Entry
  pub read : replies_of script output ≡ Ok replies
  pub counted : told ≡ told_of replies
