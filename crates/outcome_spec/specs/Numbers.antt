-- Which commit numbers and which snapshots may be shown where.
use Rattle.std.specs.Prelude.{ℕ, Bool, true, false, ◌&&◌, not, ◌==◌, nat_lt, nat_le, count_by, length}
use Rattle.std.specs.Prelude.{Option, None, Some, is_some}
use Rattle.std.specs.List.{list_all, list_any}
use Rattle.std.specs.Option.{option_map_or}
use Rattle.workload_spec.specs.declared.reply.Said.{Said}
use Rattle.workload_spec.specs.declared.reply.Said.TheVariants as said
use Rattle.outcome_spec.specs.Entries.{Entry, before, after, shown_in, commit_in}
use Rattle.outcome_spec.specs.Runs.{Run, transaction_of, commits_as, accepted_write}

-- the reply's transaction has an accepted write
abbrev pub has_written : Run → Entry → Bool
has_written run entry = option_map_or
    (λ t. list_any (λ other. is_some (accepted_write other)) t.replies)
    (transaction_of run entry) false

-- `committed k`: k is above the number of commits that the store began with, at most that of all
-- commits, on no other line, and above each commit number before.
abbrev pub is_commit_number : Run → Entry → ℕ → Bool
is_commit_number run entry number =
    nat_lt (length run.first) number && nat_le number (length run.history)
    && count_by (commits_as number) run.entries == 1
    && list_all (λ earlier. nat_lt earlier number) (shown_in commit_in (before run.entries entry))

-- a commit shows such a number where its transaction has an accepted write, and `-` exactly where
-- it has none
abbrev pub commit_holds : Run → Entry → Said → Bool
commit_holds run entry (said.Committed None) = not (has_written run entry)
commit_holds run entry (said.Committed (Some number)) = has_written run entry
    && is_commit_number run entry number
commit_holds run entry (said.At number) = true
commit_holds run entry (said.Stale read number) = true
commit_holds run entry (said.Totalled count sum) = true
commit_holds run entry said.InTransaction = true
commit_holds run entry said.NoTransaction = true
commit_holds run entry (said.Found row) = true
commit_holds run entry said.Absent = true
commit_holds run entry (said.Scanned rows) = true
commit_holds run entry said.Accepted = true
commit_holds run entry (said.ConflictSession session) = true
commit_holds run entry (said.ConflictCommit number) = true
commit_holds run entry said.Exists = true
commit_holds run entry said.Missing = true
commit_holds run entry said.Full = true
commit_holds run entry (said.Freezing table block stamp) = true
commit_holds run entry said.Aborted = true
commit_holds run entry (said.Cooling count) = true
commit_holds run entry (said.Pruned count) = true
commit_holds run entry (said.Moved count) = true
commit_holds run entry (said.Sealed table block stamp) = true
commit_holds run entry (said.NotSealed cause) = true
commit_holds run entry (said.Frozen table block rows) = true
commit_holds run entry said.NotFrozen = true
commit_holds run entry (said.Exported number rows batches frozen) = true
commit_holds run entry (said.Dirty key) = true
commit_holds run entry said.Memory = true

-- Commit numbers.
abbrev pub commit_numbers_hold : Run → Entry → Bool
commit_numbers_hold run entry = commit_holds run entry entry.reply.said

-- the number that a reply shows: a snapshot's, a commit's, that of a conflict with a commit or of a
-- stale read, or an export's
abbrev pub number_shown : Said → Option ℕ
number_shown (said.At number) = Some number
number_shown (said.Committed number) = number
number_shown (said.ConflictCommit number) = Some number
number_shown (said.Exported number rows batches frozen) = Some number
number_shown (said.Stale read number) = Some number
number_shown (said.Totalled count sum) = None
number_shown said.InTransaction = None
number_shown said.NoTransaction = None
number_shown (said.Found row) = None
number_shown said.Absent = None
number_shown (said.Scanned rows) = None
number_shown said.Accepted = None
number_shown (said.ConflictSession session) = None
number_shown said.Exists = None
number_shown said.Missing = None
number_shown said.Full = None
number_shown (said.Freezing table block stamp) = None
number_shown said.Aborted = None
number_shown (said.Cooling count) = None
number_shown (said.Pruned count) = None
number_shown (said.Moved count) = None
number_shown (said.Sealed table block stamp) = None
number_shown (said.NotSealed cause) = None
number_shown (said.Frozen table block rows) = None
number_shown said.NotFrozen = None
number_shown (said.Dirty key) = None
number_shown said.Memory = None

-- `at n`: n is at most the number of all commits, at least that of the commits that the store began
-- with and each number shown before, and below each commit number after.
abbrev pub snapshot_holds : Run → Entry → Said → Bool
snapshot_holds run entry (said.At number) =
    nat_le number (length run.history) && nat_le (length run.first) number
    && list_all (λ earlier. nat_le earlier number)
    (shown_in number_shown (before run.entries entry))
    && list_all (λ later. nat_lt number later) (shown_in commit_in (after run.entries entry))
snapshot_holds run entry (said.Stale read number) = true
snapshot_holds run entry (said.Totalled count sum) = true
snapshot_holds run entry said.InTransaction = true
snapshot_holds run entry said.NoTransaction = true
snapshot_holds run entry (said.Found row) = true
snapshot_holds run entry said.Absent = true
snapshot_holds run entry (said.Scanned rows) = true
snapshot_holds run entry said.Accepted = true
snapshot_holds run entry (said.ConflictSession session) = true
snapshot_holds run entry (said.ConflictCommit number) = true
snapshot_holds run entry said.Exists = true
snapshot_holds run entry said.Missing = true
snapshot_holds run entry said.Full = true
snapshot_holds run entry (said.Freezing table block stamp) = true
snapshot_holds run entry (said.Committed number) = true
snapshot_holds run entry said.Aborted = true
snapshot_holds run entry (said.Cooling count) = true
snapshot_holds run entry (said.Pruned count) = true
snapshot_holds run entry (said.Moved count) = true
snapshot_holds run entry (said.Sealed table block stamp) = true
snapshot_holds run entry (said.NotSealed cause) = true
snapshot_holds run entry (said.Frozen table block rows) = true
snapshot_holds run entry said.NotFrozen = true
snapshot_holds run entry (said.Exported number rows batches frozen) = true
snapshot_holds run entry (said.Dirty key) = true
snapshot_holds run entry said.Memory = true

-- Snapshot numbers.
abbrev pub snapshot_numbers_hold : Run → Entry → Bool
snapshot_numbers_hold run entry = snapshot_holds run entry entry.reply.said
