-- What replies tell of a question of a transaction.
use Rattle.std.specs.Prelude.{Bool, true, false, Option, None, Some, if◌then◌else◌}
use Rattle.workload_spec.specs.declared.reply.Who.{Who}
use Rattle.outcome_spec.specs.Entries.{Entry, is_end, is_same}

-- One's own reply that passes a test answers it, one that ends the transaction leaves it
-- unanswered, and with any other it goes on.
abbrev pub told_by : Who → (Entry → Bool) → Entry → Option Bool
told_by who test entry = if is_same entry.reply.who who
    then (if test entry then Some true
    else (if is_end entry.reply.said then Some false else None))
    else None
