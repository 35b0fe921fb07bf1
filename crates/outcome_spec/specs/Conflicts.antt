-- Which conflicts a write may show, and which it may not pass over: of two transactions that write
-- one key the first to write it wins. Each rule speaks of a reply to a write of this place, in this
-- transaction.
use Rattle.std.specs.Prelude.{ℕ, Bool, true, false, ◌&&◌, ◌||◌, not, ◌==◌, nat_le, List}
use Rattle.std.specs.Prelude.{option_and_then}
use Rattle.std.specs.List.{list_all, list_any}
use Rattle.std.specs.Option.{option_map_or}
use Rattle.isolation_spec.specs.Contents.{is_place}
use Rattle.isolation_spec.specs.Machine.{later_writers}
use Rattle.isolation_spec.specs.declared.place.Place.{Place}
use Rattle.workload_spec.specs.declared.reply.Who.TheVariants.{Session}
use Rattle.workload_spec.specs.declared.reply.Said.{Said}
use Rattle.workload_spec.specs.declared.reply.Said.TheVariants as said
use Rattle.outcome_spec.specs.Entries.{Entry, is_same, is_before, is_not_after, before, not_after}
use Rattle.outcome_spec.specs.Entries.{commit_in}
use Rattle.outcome_spec.specs.Runs.{Run, Span, transaction_of, ending_of, commit_line}
use Rattle.outcome_spec.specs.Runs.{accepted_write, write_of}

-- there is a line that commits as this number, and it is before the reply, or not after it
abbrev pub is_committed_before : Run → Entry → ℕ → Bool
is_committed_before run entry number = option_map_or (λ line. is_before line entry)
    (commit_line run.entries number) false

abbrev pub is_committed_not_after : Run → Entry → ℕ → Bool
is_committed_not_after run entry number = option_map_or (λ line. is_not_after line entry)
    (commit_line run.entries number) false

-- an accepted write of the place is among these replies
abbrev pub has_write : Place → List Entry → Bool
has_write place entries = list_any
    (λ entry. option_map_or (λ write. is_place write.0 place) (accepted_write entry) false)
    entries

-- `conflict #k`: k is above the snapshot, its write set has the place, the line `committed k` isn't
-- after this reply, and no greater number before it has the place.
abbrev pub names_commit : Run → Span → Place → Entry → ℕ → Bool
names_commit run t place entry number =
    list_any (λ later. later == number) (later_writers run.history t.snapshot place)
    && is_committed_not_after run entry number
    && list_all (λ later. nat_le later number || not (is_committed_before run entry later))
    (later_writers run.history t.snapshot place)

-- `conflict session q`: q is another session with an accepted write of the place, not after this
-- reply, in a transaction whose end isn't before it.
abbrev pub names_session : Run → Span → Place → Entry → ℕ → Bool
names_session run t place entry session = list_any (λ rival.
    is_same rival.who (Session session) && not (is_same rival.who t.who)
    && has_write place (not_after rival.replies entry)
    && option_map_or (λ ending. not (is_before ending entry)) (ending_of rival) true)
    run.transactions

-- Any reply that names neither: no commit number above the snapshot before it has the place.
abbrev pub passes_no_commit : Run → Span → Place → Entry → Bool
passes_no_commit run t place entry = list_all (λ later. not (is_committed_before run entry later))
    (later_writers run.history t.snapshot place)

-- Any reply that names no session: no other session has an accepted write of the place before it in
-- a transaction whose end is after it or missing.
abbrev pub passes_no_session : Run → Span → Place → Entry → Bool
passes_no_session run t place entry = not (list_any (λ rival.
    not (is_same rival.who t.who)
    && has_write place (before rival.replies entry)
    && option_map_or (λ ending. is_before entry ending) (ending_of rival) true) run.transactions)

-- An accepted write whose transaction commits as k: no commit number above the snapshot and below k
-- has the place.
abbrev pub is_first_updater : Run → Span → Place → Bool
is_first_updater run t place = option_map_or
    (λ number. list_all (nat_le number) (later_writers run.history t.snapshot place))
    (option_and_then (λ ending. commit_in ending.reply.said) (ending_of t)) true

-- the reply passes over nobody
abbrev pub is_clear : Run → Span → Place → Entry → Bool
is_clear run t place entry = passes_no_commit run t place entry
    && passes_no_session run t place entry

-- which of the rules each reply keeps; none speaks of refused memory
abbrev pub conflict_holds : Run → Span → Place → Entry → Said → Bool
conflict_holds run t place entry (said.At number) = is_clear run t place entry
conflict_holds run t place entry (said.Stale read number) = is_clear run t place entry
conflict_holds run t place entry (said.Totalled count sum) = is_clear run t place entry
conflict_holds run t place entry said.InTransaction = is_clear run t place entry
conflict_holds run t place entry said.NoTransaction = is_clear run t place entry
conflict_holds run t place entry (said.Found row) = is_clear run t place entry
conflict_holds run t place entry said.Absent = is_clear run t place entry
conflict_holds run t place entry (said.Scanned rows) = is_clear run t place entry
conflict_holds run t place entry said.Accepted = is_clear run t place entry
    && is_first_updater run t place
conflict_holds run t place entry (said.ConflictSession session) = names_session run t place entry
    session
conflict_holds run t place entry (said.ConflictCommit number) = names_commit run t place entry
    number && passes_no_session run t place entry
conflict_holds run t place entry said.Exists = is_clear run t place entry
conflict_holds run t place entry said.Missing = is_clear run t place entry
conflict_holds run t place entry said.Full = is_clear run t place entry
conflict_holds run t place entry (said.Freezing table block stamp) = is_clear run t place entry
conflict_holds run t place entry (said.Committed number) = is_clear run t place entry
conflict_holds run t place entry said.Aborted = is_clear run t place entry
conflict_holds run t place entry (said.Cooling count) = is_clear run t place entry
conflict_holds run t place entry (said.Pruned count) = is_clear run t place entry
conflict_holds run t place entry (said.Moved count) = is_clear run t place entry
conflict_holds run t place entry (said.Sealed table block stamp) = is_clear run t place entry
conflict_holds run t place entry (said.NotSealed cause) = is_clear run t place entry
conflict_holds run t place entry (said.Frozen table block rows) = is_clear run t place entry
conflict_holds run t place entry said.NotFrozen = is_clear run t place entry
conflict_holds run t place entry (said.Exported number rows batches frozen) = is_clear run t place
    entry
conflict_holds run t place entry (said.Dirty key) = is_clear run t place entry
conflict_holds run t place entry said.Memory = true

-- Conflicts.
abbrev pub conflicts_hold : Run → Entry → Bool
conflicts_hold run entry = option_map_or
    (λ t. option_map_or (λ write. conflict_holds run t write.0 entry entry.reply.said)
    (write_of entry.command) true)
    (transaction_of run entry) true
