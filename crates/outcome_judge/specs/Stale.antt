-- What is asked of the reads of checked transactions, by the numbers of commits and by how high
-- these are.
use Rattle.std.specs.Prelude.{ℕ, Bool, true, false, ◌&&◌, not, List, Some, is_some}
use Rattle.std.specs.List.{list_any}
use Rattle.std.specs.Option.{option_map_or}
use Rattle.isolation_spec.specs.Machine.{later_commits}
use Rattle.isolation_spec.specs.Reads.{meets}
use Rattle.isolation_spec.specs.declared.read.Read.{Read}
use Rattle.workload_spec.specs.declared.reply.Said.{Said}
use Rattle.workload_spec.specs.declared.reply.Said.TheVariants as said
use Rattle.outcome_spec.specs.Entries.{Entry, is_before, snapshot_in}
use Rattle.outcome_spec.specs.Runs.{Run, Span, accepted_write, transaction_of}
use Rattle.outcome_spec.specs.Stale.{begins_checked, is_read, read_of, read_told}
use Rattle.outcome_judge.specs.Conflicts.{is_first, is_highest, is_named}
use Rattle.outcome_judge.specs.Writers.{history_in}
use Rattle.outcome_judge.specs.declared.commits.Transaction.{Transaction}
use Rattle.outcome_judge.specs.declared.stale.Commit.{Commit}
use Rattle.outcome_judge.specs.declared.stale.Commit.TheVariants as commit
use Rattle.outcome_judge.specs.declared.stale.Question.{Question}
use Rattle.outcome_judge.specs.declared.stale.Question.TheVariants as question

-- the numbers of the commits that wrote into what was read, rising
abbrev pub numbers_meeting : List Entry → Read → List ℕ
numbers_meeting entries what = later_commits (history_in entries) 0 (meets what)

-- A reply opened a checked transaction; or an accepted write, or the read, stands in it before
-- another.
abbrev pub answers : Entry → Question → Entry → Bool
answers by question.Checked entry = begins_checked entry.command
    && is_some (snapshot_in entry.reply.said)
answers by question.Written entry = is_some (accepted_write entry) && is_before entry by
answers by (question.Read what) entry = option_map_or (is_read what)
    (read_told entry.command entry.reply.said) false
    && is_before entry by

-- a commit number above the snapshot and below the transaction's own wrote into what was read
abbrev pub is_overtaken : List Entry → Transaction → Entry → Bool
is_overtaken entries t entry = option_map_or
    (λ what. not (is_first t (numbers_meeting entries what)))
    (read_told entry.command entry.reply.said) false

-- what a reply shows of a commit of writes: a stale read and the commit that wrote it, or its own
-- number
abbrev pub commit_shown : Said → Commit
commit_shown (said.Stale what number) = commit.Stale (read_of what) number
commit_shown (said.Committed number) = option_map_or commit.As number commit.None
commit_shown _ = commit.None

-- the read was made before the reply in a checked transaction that has written
abbrev pub was_read : Span → Entry → Read → Bool
was_read t entry what =
    list_any (answers entry question.Checked) t.replies
    && list_any (answers entry question.Written) t.replies
    && list_any (answers entry (question.Read what)) t.replies

-- a stale read was read, and is named with a number of its own
abbrev pub is_stale : Run → Span → Entry → Read → ℕ → Bool
is_stale run t entry what number = was_read t entry what
    && is_named run t (numbers_meeting run.entries what) entry number

-- a checked transaction commits as a number only where none of its reads is overtaken
abbrev pub commits_last : List Entry → Span → Entry → ℕ → Bool
commits_last entries t entry number =
    not (list_any (answers entry question.Checked) t.replies
    && list_any (is_overtaken entries (record { snapshot = t.snapshot; committed = Some number }))
    t.replies)

-- what is asked of the numbers of commits, and of how high they are
abbrev pub read_rule : Run → Span → Entry → Commit → Bool
read_rule run t entry commit.None = true
read_rule run t entry (commit.As number) = commits_last run.entries t entry number
read_rule run t entry (commit.Stale what number) = is_stale run t entry what number

abbrev pub top_rule : List Entry → Entry → Commit → Bool
top_rule entries entry commit.None = true
top_rule entries entry (commit.As number) = true
top_rule entries entry (commit.Stale what number) =
    is_highest entries (numbers_meeting entries what) entry number

-- The two parts of the condition on reads of checked transactions.
abbrev pub reads_stand : Run → Entry → Bool
reads_stand run entry = option_map_or
    (λ t. read_rule run t entry (commit_shown entry.reply.said)) (transaction_of run entry) true

abbrev pub tops_stand : Run → Entry → Bool
tops_stand run entry = option_map_or
    (λ t. top_rule run.entries entry (commit_shown entry.reply.said)) (transaction_of run entry)
    true
