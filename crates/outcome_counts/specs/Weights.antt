-- What each reply adds to what is pruned, to what is moved, and to the writes that are committed.
use Rattle.std.specs.Prelude.{ℕ, List, unwrap_or, if◌then◌else◌}
use Rattle.std.specs.Option.{option_map_or}
use Rattle.outcome_spec.specs.Entries.{Entry, is_commit}
use Rattle.outcome_spec.specs.Runs.{transactions_of, transaction_with}
use Rattle.outcome_spec.specs.Upkeep.{pruned_in, moved_in}
use Rattle.outcome_counts.specs.Written.{writes_of}

abbrev pub pruned_by : Entry → ℕ
pruned_by entry = unwrap_or (pruned_in entry.reply.said) 0

abbrev pub moved_by : Entry → ℕ
moved_by entry = unwrap_or (moved_in entry.reply.said) 0

-- the accepted writes of the transaction that the reply commits
abbrev pub committed_by : List Entry → Entry → ℕ
committed_by entries entry =
    if is_commit entry.reply.said
    then option_map_or writes_of (transaction_with (transactions_of entries) entry) 0 else 0
