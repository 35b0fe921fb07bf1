-- What a reply to a write says of conflicts.
use Rattle.std.specs.Prelude.{ℕ, Bool, true, ◌&&◌, nat_le, nat_lt, List}
use Rattle.std.specs.Option.{option_map_or}
use Rattle.isolation_spec.specs.declared.place.Place.{Place}
use Rattle.workload_spec.specs.declared.reply.Said.{Said}
use Rattle.workload_spec.specs.declared.reply.Said.TheVariants as said
use Rattle.outcome_spec.specs.Conflicts.{is_committed_not_after, is_first_updater, names_session}
use Rattle.outcome_spec.specs.Conflicts.{passes_no_commit, passes_no_session}
use Rattle.outcome_spec.specs.Entries.{Entry, before}
use Rattle.outcome_spec.specs.Runs.{Run, Span, transaction_of, write_of}
use Rattle.mark_index.specs.Marks.{count_below, highest}
use Rattle.outcome_judge.specs.Writers.{count_up_to, is_number_in, number_told, numbers_of}
use Rattle.outcome_judge.specs.declared.commits.Transaction.{Transaction}
use Rattle.outcome_judge.specs.declared.conflicts.Shown.{Shown}
use Rattle.outcome_judge.specs.declared.conflicts.Shown.TheVariants as shown

-- which of the rules a reply is under
abbrev pub shown_in : Said → Shown
shown_in said.Memory = shown.Refused
shown_in (said.ConflictSession session) = shown.Session session
shown_in (said.ConflictCommit number) = shown.Commit number
shown_in said.Accepted = shown.Accepted
shown_in _ = shown.Other

-- the commit number is above the snapshot, one of these numbers, and its line isn't after the reply
abbrev pub is_named : Run → Span → List ℕ → Entry → ℕ → Bool
is_named run t numbers entry number =
    (nat_lt t.snapshot number && is_number_in numbers number)
    && is_committed_not_after run entry number

-- none of these numbers that is above it has its line before the reply
abbrev pub is_highest : List Entry → List ℕ → Entry → ℕ → Bool
is_highest entries numbers entry number = nat_le
    (highest (number_told entries numbers) (before entries entry)) number

-- none of these numbers is above the transaction's snapshot and below its own, if it commits
abbrev pub is_first : Transaction → List ℕ → Bool
is_first t numbers = option_map_or
    (λ number. nat_le (count_below number numbers) (count_up_to t.snapshot numbers)) t.committed true

-- what it asks of sessions, of the numbers of commits, and of how high they are
abbrev pub session_rule : Run → Span → Place → Entry → Shown → Bool
session_rule run t place entry shown.Refused = true
session_rule run t place entry (shown.Session session) = names_session run t place entry session
session_rule run t place entry (shown.Commit number) = passes_no_session run t place entry
session_rule run t place entry shown.Accepted = passes_no_session run t place entry
session_rule run t place entry shown.Other = passes_no_session run t place entry

abbrev pub number_rule : Run → Span → Place → Entry → Shown → Bool
number_rule run t place entry shown.Refused = true
number_rule run t place entry (shown.Session session) = true
number_rule run t place entry (shown.Commit number) = is_named run t (numbers_of run.entries place) entry number
number_rule run t place entry shown.Accepted = is_first_updater run t place
number_rule run t place entry shown.Other = true

abbrev pub height_rule : Run → Span → Place → Entry → Shown → Bool
height_rule run t place entry shown.Refused = true
height_rule run t place entry (shown.Session session) = true
height_rule run t place entry (shown.Commit number) = is_highest run.entries (numbers_of run.entries place) entry number
height_rule run t place entry shown.Accepted = passes_no_commit run t place entry
height_rule run t place entry shown.Other = passes_no_commit run t place entry

-- The three parts of the condition on conflicts.
abbrev pub sessions_hold : Run → Entry → Bool
sessions_hold run entry = option_map_or
    (λ t. option_map_or (λ write. session_rule run t write.0 entry (shown_in entry.reply.said))
    (write_of entry.command) true)
    (transaction_of run entry) true

abbrev pub numbers_hold : Run → Entry → Bool
numbers_hold run entry = option_map_or
    (λ t. option_map_or (λ write. number_rule run t write.0 entry (shown_in entry.reply.said))
    (write_of entry.command) true)
    (transaction_of run entry) true

abbrev pub heights_hold : Run → Entry → Bool
heights_hold run entry = option_map_or
    (λ t. option_map_or (λ write. height_rule run t write.0 entry (shown_in entry.reply.said))
    (write_of entry.command) true)
    (transaction_of run entry) true
