-- What a commit shows.
use Rattle.std.specs.Prelude.{ℕ, Bool, ◌&&◌, not, Option, None, Some}
use Rattle.workload_spec.specs.declared.reply.Said.{Said}
use Rattle.workload_spec.specs.declared.reply.Said.TheVariants as said
use Rattle.outcome_spec.specs.Entries.{Entry}
use Rattle.outcome_spec.specs.Runs.{Run}
use Rattle.outcome_spec.specs.Numbers.{has_written, is_commit_number}

-- what a commit shows: a number, or none
abbrev pub committed : Said → Option (Option ℕ)
committed (said.Committed number) = Some number
committed _ = None

-- a number where the transaction has written, and none where it hasn't
abbrev pub may_show : Run → Entry → Option ℕ → Bool
may_show run entry None = not (has_written run entry)
may_show run entry (Some number) = has_written run entry && is_commit_number run entry number
