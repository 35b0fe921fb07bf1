-- Worked examples of commits: what a session's own events tell of them, and in which order those of
-- a log stand.
use Rattle.std.specs.Prelude.{◌≡◌, ℕ, pos, List, [], ◌∷◌, ◌++◌, map, codes, Option, None, Some}
use Rattle.block_spec.specs.Slots.{Row}
use Rattle.event_spec.specs.declared.event.Event.TheVariants as event
use Rattle.event_spec.specs.declared.own.OwnKey.{OwnKey}
use Rattle.event_spec.specs.declared.own.OwnTransaction.{OwnTransaction}
use Rattle.event_spec.specs.declared.reply.Reply.TheVariants as reply
use Rattle.event_spec.specs.declared.reply.WriteFault.TheVariants as refusal
use Rattle.event_spec.specs.Replies.{CoreReply}
use Rattle.isolation_spec.specs.Contents.{History, WriteSet, place_at}
use Rattle.isolation_spec.specs.declared.place.Place.{Place}
use Rattle.isolation_spec.specs.declared.read.Read.TheVariants as read
use Rattle.outcome_spec.specs.Samples.{sessions, text_row, texts}
use Rattle.workload_spec.specs.declared.script.Script.{Script}
use Rattle.run_spec.specs.declared.commit.Commit.{Commit}
use Rattle.run_spec.specs.Commits.{commits_along, commits_of, history_behind, writes_of}
use Rattle.run_spec.specs.Examples.{by}
use Rattle.run_spec.specs.Histories.{history_at}
use Rattle.run_spec.specs.Occurrences.{Occurrence, under}
use Rattle.run_spec.specs.Ran.{RoundRun}

-- ---- words

abbrev pub row : ℕ → Row
row key = text_row key (codes "x")

-- a session's transaction, of which nothing else is looked at
abbrev pub own : ℕ → OwnTransaction
own session = record {
  session = session;
  snapshot = record { stamp = 0; number = 0 };
  writes = [];
}

abbrev pub own_key : ℕ → OwnKey
own_key session = record {
  session = session;
  snapshot = record { stamp = 0; number = 0 };
  written = None;
}

abbrev pub begin : ℕ → Occurrence
begin session = by session
    (event.Begin session)
    (reply.Begun (record { stamp = 0; number = 0 }))

abbrev pub insert : ℕ → ℕ → CoreReply → Occurrence
insert session key told = by session (event.Insert (own_key session) 0 (row key)) told

abbrev pub update : ℕ → ℕ → CoreReply → Occurrence
update session key told = by session (event.Update (own_key session) 0 (row key)) told

abbrev pub delete : ℕ → ℕ → CoreReply → Occurrence
delete session key told = by session (event.Delete (own_key session) 0 (pos key)) told

abbrev pub commit : ℕ → CoreReply → Occurrence
commit session told = by session (event.Commit (own session) None) told

abbrev pub abort : ℕ → Occurrence
abort session = by session (event.Abort (own session)) reply.Aborted

abbrev pub ok : CoreReply
ok = reply.Written 0

abbrev pub has_row : ℕ → Place × Option Row
has_row key = (place_at 0 (pos key), Some (row key))

abbrev pub has_none : ℕ → Place × Option Row
has_none key = (place_at 0 (pos key), None)

abbrev pub wrote : ℕ → WriteSet → Commit
wrote number writes = record { number = number; writes = writes }

-- ---- one session

-- two transactions write, of which the second is aborted, and a third writes nothing
abbrev pub three_transactions : List Occurrence
three_transactions =
    begin 1 ∷ insert 1 7 ok ∷ delete 1 5 ok ∷ delete 1 7 ok ∷ insert 1 6 ok
    ∷ insert 1 6 (reply.Refused refusal.Exists)
    ∷ update 1 8 (reply.Refused (refusal.Freezing 0 1))
    ∷ delete 1 9 reply.Memory
    ∷ commit 1 (reply.Committed (Some 4))
    ∷ begin 1 ∷ insert 1 9 ok ∷ abort 1
    ∷ begin 1 ∷ commit 1 (reply.Committed None) ∷ []

-- A commit has the writes that were accepted, each place once with what was written last, in the
-- order of the places: a row, or that there is none. What was aborted is in none, and one that
-- wrote nothing is none.
abbrev pub AcceptedWritesAreCommitted : Type 0
AcceptedWritesAreCommitted =
    (commits_of three_transactions
    ≡ wrote 4 (has_none 5 ∷ has_row 6 ∷ has_none 7 ∷ []) ∷ [])
    × ((writes_of three_transactions).own ≡ [])
    × (commits_of (begin 1 ∷ commit 1 (reply.Committed (Some 5)) ∷ []) ≡ [])

-- a commit that is refused for a stale read
abbrev pub refused_once : List Occurrence
refused_once =
    begin 1 ∷ insert 1 5 ok ∷ commit 1 (reply.Stale (read.Key 0 (pos 6)) 4) ∷ []

-- It ends nothing: the transaction has what it wrote, and may write more and commit.
abbrev pub RefusedCommitsKeepTheWrites : Type 0
RefusedCommitsKeepTheWrites =
    ((writes_of refused_once).own ≡ has_row 5 ∷ [])
    × (commits_of refused_once ≡ [])
    × (commits_of (refused_once ++ update 1 7 ok ∷ commit 1 (reply.Committed (Some 8)) ∷ [])
    ≡ wrote 8 (has_row 5 ∷ has_row 7 ∷ []) ∷ [])

-- ---- a log

-- two sessions write at a time, and the one that began last commits first
abbrev pub until_a_commit : List Occurrence
until_a_commit =
    begin 1 ∷ begin 2 ∷ insert 1 5 ok ∷ insert 2 6 ok ∷ commit 2 (reply.Committed (Some 3))
    ∷ begin 2 ∷ insert 2 7 ok ∷ []

abbrev pub two_more : List Occurrence
two_more = commit 1 (reply.Committed (Some 4)) ∷ commit 2 (reply.Committed (Some 5)) ∷ []

-- the commits that the store began with
abbrev pub two_first : History
two_first = (has_row 1 ∷ has_row 2 ∷ []) ∷ (has_none 2 ∷ []) ∷ []

-- The commits of a log stand in its order, each with what its own session wrote, and those of a
-- part of it likewise. Behind the log is the history of all, behind what the store began with.
abbrev pub LogsHaveCommits : Type 0
LogsHaveCommits =
    (commits_along [] until_a_commit ≡ wrote 3 (has_row 6 ∷ []) ∷ [])
    × (commits_along until_a_commit two_more
    ≡ wrote 4 (has_row 5 ∷ []) ∷ wrote 5 (has_row 7 ∷ []) ∷ [])
    × (map (λ session. commits_of (under session (until_a_commit ++ two_more))) (1 ∷ 2 ∷ [])
    ≡ (wrote 4 (has_row 5 ∷ []) ∷ [])
    ∷ (wrote 3 (has_row 6 ∷ []) ∷ wrote 5 (has_row 7 ∷ []) ∷ [])
    ∷ [])
    × (history_behind two_first (until_a_commit ++ two_more)
    ≡ (has_row 1 ∷ has_row 2 ∷ []) ∷ (has_none 2 ∷ []) ∷ (has_row 6 ∷ []) ∷ (has_row 5 ∷ [])
    ∷ (has_row 7 ∷ []) ∷ [])
    × (history_behind two_first [] ≡ two_first)

-- ---- rounds

-- a run over those first commits in two rounds, of which nothing else is looked at
abbrev pub over_two : Script
over_two = record (sessions (texts 2) []) { begun = two_first }

abbrev pub two_rounds : List RoundRun
two_rounds =
    record { made = until_a_commit; shares = [] } ∷ record { made = two_more; shares = [] } ∷ []

-- Behind no round are the first commits, and behind each round its own too.
abbrev pub RoundsLeaveHistories : Type 0
RoundsLeaveHistories =
    (history_at over_two two_rounds 0 ≡ two_first)
    × (history_at over_two two_rounds 1 ≡ two_first ++ (has_row 6 ∷ []) ∷ [])
    × (history_at over_two two_rounds 2
    ≡ two_first ++ (has_row 6 ∷ []) ∷ (has_row 5 ∷ []) ∷ (has_row 7 ∷ []) ∷ [])
