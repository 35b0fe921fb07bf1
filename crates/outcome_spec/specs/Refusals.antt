-- Worked examples of outputs that are not explained, as facts: each fails one condition, at the
-- line that is named.
use Rattle.std.specs.Prelude.{◌≡◌, [], ◌∷◌, ◌++◌, codes, Some}
use Rattle.workload_spec.specs.Words.{lines_text}
use Rattle.outcome_spec.specs.Explained.{failing_line}
use Rattle.outcome_spec.specs.Samples.{texts, keys, sessions, begin, get, insert, update, put, puts}
use Rattle.outcome_spec.specs.Samples.{commit, abort, prune, seal, gather, export, nine_rows}
use Rattle.outcome_spec.specs.Samples.{nine_replies, FailsAt}
use Rattle.outcome_spec.specs.Scripts.{reader_and_writer, reader_that_writes, two_commits}
use Rattle.outcome_spec.specs.Scripts.{scan_of_two, sealed_block, frozen_block, worker_alone}
use Rattle.outcome_spec.specs.Scripts.{commits_in_turn, two_later_commits}

-- ---- Forms

-- a line has the next index of its session
abbrev pub other_index : Type 0
other_index = FailsAt reader_and_writer
    (codes "1 1 1 at 0" ∷ codes "2 2 1 at 0" ∷ codes "2 2 7 ok" ∷ codes "2 2 3 committed 1" ∷ codes
    "3 1 1 none" ∷ []) 3

-- each command has a line
abbrev pub missing_line : Type 0
missing_line = FailsAt reader_and_writer
    (codes "1 1 1 at 0" ∷ codes "2 2 1 at 0" ∷ codes "2 2 2 ok" ∷ codes "2 2 3 committed 1" ∷ []) 5

-- the last line ends
abbrev pub line_without_end : Type 0
line_without_end = failing_line reader_and_writer
    (lines_text (codes "1 1 1 at 0" ∷ codes "2 2 1 at 0" ∷ codes "2 2 2 ok" ∷ codes
    "2 2 3 committed 1" ∷ []) ++ codes "3 1 1 none") ≡ Some 5

-- no line stands behind the last
abbrev pub line_too_many : Type 0
line_too_many = FailsAt reader_and_writer
    (codes "1 1 1 at 0" ∷ codes "2 2 1 at 0" ∷ codes "2 2 2 ok" ∷ codes "2 2 3 committed 1" ∷ codes
    "3 1 1 none"
    ∷ codes "3 1 2 none" ∷ []) 6

-- a get shows no row of another key
abbrev pub other_key : Type 0
other_key = FailsAt reader_and_writer
    (codes "1 1 1 at 0" ∷ codes "2 2 1 at 0" ∷ codes "2 2 2 ok" ∷ codes "2 2 3 committed 1" ∷ codes
    "3 1 1 row 7 \"x\"" ∷ []) 5

-- a number has one spelling
abbrev pub leading_zero : Type 0
leading_zero = FailsAt reader_and_writer
    (codes "1 1 1 at 00" ∷ codes "2 2 1 at 0" ∷ codes "2 2 2 ok" ∷ codes "2 2 3 committed 1" ∷ codes
    "3 1 1 none" ∷ []) 1

-- a number is one that its type holds
abbrev pub wide_number : Type 0
wide_number = FailsAt reader_that_writes
    (codes "1 1 1 at 0" ∷ codes "2 2 1 at 0" ∷ codes "2 2 2 ok" ∷ codes "2 2 3 committed 1" ∷ codes
    "3 1 1 none"
    ∷ codes "4 1 1 conflict session 4294967296" ∷ []) 6

-- an update finds no full table
abbrev pub full_update : Type 0
full_update = FailsAt reader_that_writes
    (codes "1 1 1 at 0" ∷ codes "2 2 1 at 0" ∷ codes "2 2 2 ok" ∷ codes "2 2 3 committed 1" ∷ codes
    "3 1 1 none"
    ∷ codes "4 1 1 full" ∷ []) 6

-- a commit is not refused memory
abbrev pub memory_at_commit : Type 0
memory_at_commit = FailsAt reader_and_writer
    (codes "1 1 1 at 0" ∷ codes "2 2 1 at 0" ∷ codes "2 2 2 ok" ∷ codes "2 2 3 memory" ∷ codes
    "3 1 1 none" ∷ []) 4

-- no transaction is told exactly where there is none
abbrev pub no_transaction : Type 0
no_transaction = FailsAt reader_and_writer
    (codes "1 1 1 at 0" ∷ codes "2 2 1 at 0" ∷ codes "2 2 2 ok" ∷ codes "2 2 3 committed 1" ∷ codes
    "3 1 1 no transaction" ∷ []) 5

-- the keys of scanned rows rise
abbrev pub falling_keys : Type 0
falling_keys = FailsAt scan_of_two
    (codes "1 1 1 at 0" ∷ codes "1 1 2 ok" ∷ codes "1 1 3 ok" ∷ codes "1 1 4 rows 2" ∷ codes "| 2"
    ∷ codes "| 1"
    ∷ codes "1 1 5 aborted" ∷ []) 6

-- a scan has as many rows as its first line says
abbrev pub row_missing : Type 0
row_missing = FailsAt scan_of_two
    (codes "1 1 1 at 0" ∷ codes "1 1 2 ok" ∷ codes "1 1 3 ok" ∷ codes "1 1 4 rows 3" ∷ codes "| 1"
    ∷ codes "| 2"
    ∷ codes "1 1 5 aborted" ∷ []) 7

-- however many rows it says, and however few there are
abbrev pub rows_without_number : Type 0
rows_without_number = FailsAt scan_of_two
    (codes "1 1 1 at 0" ∷ codes "1 1 2 ok" ∷ codes "1 1 3 ok" ∷ codes
    "1 1 4 rows 18446744073709551615" ∷ codes "| 1" ∷ codes "| 2" ∷ []) 7

-- a seal answers for its block
abbrev pub other_block : Type 0
other_block = FailsAt frozen_block
    (nine_replies ++ codes "1 1 15 sealed a 1 1" ∷ codes "1 1 16 frozen a 0 8" ∷ codes "1 1 17 at 1"
    ∷ codes "1 1 18 export 1 rows 9 batches 2 frozen 1" ∷ []) 15

-- a worker compacts before it seals
abbrev pub worker_skips : Type 0
worker_skips = FailsAt worker_alone
    (codes "1 w1 1 cooling 0" ∷ codes "1 w1 2 pruned 0" ∷ codes "1 w1 3 sealed a 0 1" ∷ []) 3

-- a worker is refused memory at its compaction and its two gatherings alone
abbrev pub memory_too_many : Type 0
memory_too_many = FailsAt worker_alone
    (codes "1 w1 1 cooling 0" ∷ codes "1 w1 2 pruned 0" ∷ codes "1 w1 3 memory" ∷ codes
    "1 w1 4 memory" ∷ codes "1 w1 5 memory"
    ∷ codes "1 w1 6 memory" ∷ []) 6

-- ---- Commit numbers

-- a commit number is at most the count of them
abbrev pub commit_above_count : Type 0
commit_above_count = FailsAt reader_and_writer
    (codes "1 1 1 at 0" ∷ codes "2 2 1 at 0" ∷ codes "2 2 2 ok" ∷ codes "2 2 3 committed 2" ∷ codes
    "3 1 1 none" ∷ []) 4

-- a commit that wrote has a number
abbrev pub commit_without_number : Type 0
commit_without_number = FailsAt reader_and_writer
    (codes "1 1 1 at 0" ∷ codes "2 2 1 at 0" ∷ codes "2 2 2 ok" ∷ codes "2 2 3 committed -" ∷ codes
    "3 1 1 none" ∷ []) 4

-- commit numbers rise
abbrev pub falling_commits : Type 0
falling_commits = FailsAt commits_in_turn
    (codes "1 1 1 at 0" ∷ codes "1 1 2 ok" ∷ codes "2 2 1 at 0" ∷ codes "2 2 2 ok" ∷ codes
    "3 1 1 committed 2"
    ∷ codes "4 2 1 committed 1" ∷ []) 6

-- a commit number is on one line
abbrev pub commit_number_twice : Type 0
commit_number_twice = FailsAt commits_in_turn
    (codes "1 1 1 at 0" ∷ codes "1 1 2 ok" ∷ codes "2 2 1 at 0" ∷ codes "2 2 2 ok" ∷ codes
    "3 1 1 committed 1"
    ∷ codes "4 2 1 committed 1" ∷ []) 5

-- a commit that wrote nothing has no number
abbrev pub empty_commit_numbered : Type 0
empty_commit_numbered = FailsAt
    (sessions (texts 2) ((begin 1 ∷ get 1 1 ∷ commit 1 ∷ []) ∷ []))
    (codes "1 1 1 at 0" ∷ codes "1 1 2 none" ∷ codes "1 1 3 committed 1" ∷ []) 3

-- ---- Snapshot numbers

-- a snapshot is below each commit number after it
abbrev pub snapshot_of_the_future : Type 0
snapshot_of_the_future = FailsAt reader_and_writer
    (codes "1 1 1 at 1" ∷ codes "2 2 1 at 0" ∷ codes "2 2 2 ok" ∷ codes "2 2 3 committed 1" ∷ codes
    "3 1 1 none" ∷ []) 1

-- a snapshot is below its own commit number
abbrev pub snapshot_too_new : Type 0
snapshot_too_new = FailsAt reader_and_writer
    (codes "1 1 1 at 0" ∷ codes "2 2 1 at 1" ∷ codes "2 2 2 ok" ∷ codes "2 2 3 committed 1" ∷ codes
    "3 1 1 none" ∷ []) 2

-- a snapshot has each commit shown before it
abbrev pub snapshot_too_old : Type 0
snapshot_too_old = FailsAt
    (sessions (texts 2) ((begin 1 ∷ insert 1 1 (codes "x") ∷ commit 1 ∷ [])
    ∷ (begin 2 ∷ get 2 1 ∷ []) ∷ []))
    (codes "1 1 1 at 0" ∷ codes "1 1 2 ok" ∷ codes "1 1 3 committed 1" ∷ codes "2 2 1 at 0" ∷ codes
    "2 2 2 none" ∷ []) 4

-- ---- Reads

-- an older snapshot does not see a later commit
abbrev pub newest_row : Type 0
newest_row = FailsAt reader_and_writer
    (codes "1 1 1 at 0" ∷ codes "2 2 1 at 0" ∷ codes "2 2 2 ok" ∷ codes "2 2 3 committed 1" ∷ codes
    "3 1 1 row 5 \"x\"" ∷ []) 5

-- a transaction sees its own writes
abbrev pub own_write_unseen : Type 0
own_write_unseen = FailsAt scan_of_two
    (codes "1 1 1 at 0" ∷ codes "1 1 2 ok" ∷ codes "1 1 3 ok" ∷ codes "1 1 4 rows 1" ∷ codes "| 1"
    ∷ codes "1 1 5 aborted" ∷ []) 4

-- an aborted write is not seen
abbrev pub aborted_write_seen : Type 0
aborted_write_seen = FailsAt
    (sessions (texts 2) ((begin 1 ∷ insert 1 1 (codes "x") ∷ abort 1 ∷ begin 1 ∷ get 1 1 ∷ [])
    ∷ []))
    (codes "1 1 1 at 0" ∷ codes "1 1 2 ok" ∷ codes "1 1 3 aborted" ∷ codes "1 1 4 at 0" ∷ codes
    "1 1 5 row 1 \"x\"" ∷ []) 5

-- ---- Writes

-- an insert finds a row only where one stands
abbrev pub exists_nowhere : Type 0
exists_nowhere = FailsAt reader_and_writer
    (codes "1 1 1 at 0" ∷ codes "2 2 1 at 0" ∷ codes "2 2 2 exists" ∷ codes "2 2 3 committed 1"
    ∷ codes "3 1 1 none" ∷ []) 3

-- an insert is accepted only where no row stands
abbrev pub inserted_twice : Type 0
inserted_twice = FailsAt
    (sessions (texts 2) ((begin 1 ∷ insert 1 1 (codes "x") ∷ insert 1 1 (codes "y") ∷ []) ∷ []))
    (codes "1 1 1 at 0" ∷ codes "1 1 2 ok" ∷ codes "1 1 3 ok" ∷ []) 3

-- an update is accepted only where a row stands
abbrev pub updated_nothing : Type 0
updated_nothing = FailsAt
    (sessions (texts 2) ((begin 1 ∷ update 1 1 (codes "x") ∷ []) ∷ []))
    (codes "1 1 1 at 0" ∷ codes "1 1 2 ok" ∷ []) 2

-- ---- Conflicts

-- a later commit of the key is a conflict before the key is missing
abbrev pub conflict_passed_over : Type 0
conflict_passed_over = FailsAt reader_that_writes
    (codes "1 1 1 at 0" ∷ codes "2 2 1 at 0" ∷ codes "2 2 2 ok" ∷ codes "2 2 3 committed 1" ∷ codes
    "3 1 1 none"
    ∷ codes "4 1 1 missing" ∷ []) 6

-- a conflict names a session that wrote the key in a transaction that has not ended
abbrev pub conflict_with_none : Type 0
conflict_with_none = FailsAt reader_that_writes
    (codes "1 1 1 at 0" ∷ codes "2 2 1 at 0" ∷ codes "2 2 2 ok" ∷ codes "2 2 3 committed 1" ∷ codes
    "3 1 1 none"
    ∷ codes "4 1 1 conflict session 2" ∷ []) 6

-- a conflict names a session that is there
abbrev pub conflict_with_nobody : Type 0
conflict_with_nobody = FailsAt reader_that_writes
    (codes "1 1 1 at 0" ∷ codes "2 2 1 at 0" ∷ codes "2 2 2 ok" ∷ codes "2 2 3 committed 1" ∷ codes
    "3 1 1 none"
    ∷ codes "4 1 1 conflict session 3" ∷ []) 6

-- a conflict names another session
abbrev pub conflict_with_itself : Type 0
conflict_with_itself = FailsAt
    (sessions (texts 2) ((begin 1 ∷ insert 1 1 (codes "x") ∷ update 1 1 (codes "y") ∷ []) ∷ []))
    (codes "1 1 1 at 0" ∷ codes "1 1 2 ok" ∷ codes "1 1 3 conflict session 1" ∷ []) 3

-- a conflict names a commit above the snapshot
abbrev pub conflict_with_no_commit : Type 0
conflict_with_no_commit = FailsAt
    (sessions (texts 2) ((begin 1 ∷ insert 1 1 (codes "x") ∷ commit 1 ∷ [])
    ∷ (begin 2 ∷ update 2 1 (codes "y") ∷ []) ∷ []))
    (codes "1 1 1 at 0" ∷ codes "1 1 2 ok" ∷ codes "1 1 3 committed 1" ∷ codes "2 2 1 at 1" ∷ codes
    "2 2 2 conflict #1" ∷ []) 5

-- a conflict names the last commit of the key before it
abbrev pub first_commit_named : Type 0
first_commit_named = FailsAt two_later_commits
    (codes "1 1 1 at 0" ∷ codes "2 2 1 at 0" ∷ codes "2 2 2 ok" ∷ codes "2 2 3 committed 1" ∷ codes
    "2 2 4 at 1"
    ∷ codes "2 2 5 ok" ∷ codes "2 2 6 committed 2" ∷ codes "3 1 1 conflict #1" ∷ []) 8

-- a key that another open transaction wrote before is a conflict
abbrev pub open_writer_passed_over : Type 0
open_writer_passed_over = FailsAt
    (sessions (texts 2) ((begin 1 ∷ insert 1 7 (codes "x") ∷ [])
    ∷ (begin 2 ∷ insert 2 7 (codes "y") ∷ []) ∷ []))
    (codes "1 1 1 at 0" ∷ codes "1 1 2 ok" ∷ codes "2 2 1 at 0" ∷ codes "2 2 2 ok" ∷ []) 4

-- a conflict names the session before the commit
abbrev pub open_session_passed_over : Type 0
open_session_passed_over = FailsAt
    (sessions (texts 2) ((begin 1 ∷ [])
    ∷ (begin 2 ∷ insert 2 5 (codes "x") ∷ commit 2 ∷ begin 2 ∷ update 2 5 (codes "y") ∷ [])
    ∷ (insert 1 5 (codes "z") ∷ []) ∷ (commit 2 ∷ []) ∷ []))
    (codes "1 1 1 at 0" ∷ codes "2 2 1 at 0" ∷ codes "2 2 2 ok" ∷ codes "2 2 3 committed 1" ∷ codes
    "2 2 4 at 1"
    ∷ codes "2 2 5 ok" ∷ codes "3 1 1 conflict #1" ∷ codes "4 2 1 committed 2" ∷ []) 7

-- of two concurrent transactions that write one key one commits
abbrev pub lost_update : Type 0
lost_update = FailsAt two_commits
    (codes "1 1 1 at 0" ∷ codes "2 2 1 at 0" ∷ codes "3 1 1 ok" ∷ codes "3 1 2 committed 1" ∷ codes
    "3 2 1 ok"
    ∷ codes "3 2 2 committed 2" ∷ []) 5

-- ---- Freezing

-- a block is freezing only once it is sealed
abbrev pub never_sealed : Type 0
never_sealed = FailsAt sealed_block
    (nine_replies ++ codes "1 1 15 not sealed hot" ∷ codes "1 1 16 at 1" ∷ codes
    "1 1 17 freezing a 0 1" ∷ codes "1 1 18 not frozen"
    ∷ codes "1 1 19 ok" ∷ codes "1 1 20 committed 2" ∷ []) 17

-- a block is freezing under the stamp of its seal
abbrev pub other_stamp : Type 0
other_stamp = FailsAt sealed_block
    (nine_replies ++ codes "1 1 15 sealed a 0 1" ∷ codes "1 1 16 at 1" ∷ codes
    "1 1 17 freezing a 0 2" ∷ codes "1 1 18 frozen a 0 8"
    ∷ codes "1 1 19 ok" ∷ codes "1 1 20 committed 2" ∷ []) 17

-- a block that is gathered is no longer freezing
abbrev pub frozen_already : Type 0
frozen_already = FailsAt sealed_block
    (nine_replies ++ codes "1 1 15 sealed a 0 1" ∷ codes "1 1 16 at 1" ∷ codes
    "1 1 17 freezing a 0 1" ∷ codes "1 1 18 frozen a 0 8"
    ∷ codes "1 1 19 freezing a 0 1" ∷ codes "1 1 20 committed 2" ∷ []) 19

-- ---- Full tables

-- a table is full only after as many inserts as it has slots
abbrev pub full_too_early : Type 0
full_too_early = FailsAt
    (sessions (keys 2) ((begin 1 ∷ puts 1 9) ∷ []))
    (codes "1 1 1 at 0" ∷ codes "1 1 2 ok" ∷ codes "1 1 3 ok" ∷ codes "1 1 4 ok" ∷ codes "1 1 5 ok"
    ∷ codes "1 1 6 ok"
    ∷ codes "1 1 7 ok" ∷ codes "1 1 8 ok" ∷ codes "1 1 9 ok" ∷ codes "1 1 10 full" ∷ []) 10

-- ---- Exports

-- an export has the rows of its snapshot
abbrev pub too_few_rows : Type 0
too_few_rows = FailsAt frozen_block
    (nine_replies ++ codes "1 1 15 sealed a 0 1" ∷ codes "1 1 16 frozen a 0 8" ∷ codes "1 1 17 at 1"
    ∷ codes "1 1 18 export 1 rows 8 batches 2 frozen 1" ∷ []) 18

-- an export is of its transaction's snapshot
abbrev pub other_snapshot : Type 0
other_snapshot = FailsAt frozen_block
    (nine_replies ++ codes "1 1 15 sealed a 0 1" ∷ codes "1 1 16 frozen a 0 8" ∷ codes "1 1 17 at 1"
    ∷ codes "1 1 18 export 0 rows 0 batches 0 frozen 0" ∷ []) 18

-- a batch has at most as many rows as a block has slots
abbrev pub crowded_batch : Type 0
crowded_batch = FailsAt frozen_block
    (nine_replies ++ codes "1 1 15 sealed a 0 1" ∷ codes "1 1 16 frozen a 0 8" ∷ codes "1 1 17 at 1"
    ∷ codes "1 1 18 export 1 rows 9 batches 1 frozen 1" ∷ []) 18

-- there are at most as many batches as blocks
abbrev pub too_many_batches : Type 0
too_many_batches = FailsAt frozen_block
    (nine_replies ++ codes "1 1 15 sealed a 0 1" ∷ codes "1 1 16 frozen a 0 8" ∷ codes "1 1 17 at 1"
    ∷ codes "1 1 18 export 1 rows 9 batches 3 frozen 1" ∷ []) 18

-- a batch is an image only of a block that was frozen
abbrev pub never_frozen : Type 0
never_frozen = FailsAt frozen_block
    (nine_replies ++ codes "1 1 15 sealed a 0 1" ∷ codes "1 1 16 frozen a 0 8" ∷ codes "1 1 17 at 1"
    ∷ codes "1 1 18 export 1 rows 9 batches 2 frozen 2" ∷ []) 18

-- an export after writes names the least key that was written
abbrev pub not_the_least_key : Type 0
not_the_least_key = FailsAt
    (sessions (keys 2) ((begin 1 ∷ put 1 4 ∷ put 1 2 ∷ export 1 ∷ []) ∷ []))
    (codes "1 1 1 at 0" ∷ codes "1 1 2 ok" ∷ codes "1 1 3 ok" ∷ codes "1 1 4 dirty 4" ∷ []) 4

-- an export after a write in the table is refused
abbrev pub dirty_and_exported : Type 0
dirty_and_exported = FailsAt
    (sessions (keys 2) ((begin 1 ∷ put 1 4 ∷ export 1 ∷ []) ∷ []))
    (codes "1 1 1 at 0" ∷ codes "1 1 2 ok" ∷ codes "1 1 3 export 0 rows 0 batches 0 frozen 0" ∷ [])
    3

-- ---- Upkeep

-- the first seal of a block has the stamp 1
abbrev pub stamp_from_nothing : Type 0
stamp_from_nothing = FailsAt frozen_block
    (nine_replies ++ codes "1 1 15 sealed a 0 2" ∷ codes "1 1 16 frozen a 0 8" ∷ codes "1 1 17 at 1"
    ∷ codes "1 1 18 export 1 rows 9 batches 2 frozen 1" ∷ []) 15

-- each seal of a block has a stamp of its own
abbrev pub same_stamp : Type 0
same_stamp = FailsAt
    (sessions (keys 2) ((nine_rows ++ seal 1 0 ∷ gather 1 0 ∷ seal 1 0 ∷ []) ∷ []))
    (nine_replies ++ codes "1 1 15 sealed a 0 1" ∷ codes "1 1 16 frozen a 0 8" ∷ codes
    "1 1 17 sealed a 0 1" ∷ []) 15

-- a block is gathered once for each seal
abbrev pub gathered_unsealed : Type 0
gathered_unsealed = FailsAt
    (sessions (keys 2) ((nine_rows ++ seal 1 0 ∷ gather 1 0 ∷ gather 1 0 ∷ []) ∷ []))
    (nine_replies ++ codes "1 1 15 sealed a 0 1" ∷ codes "1 1 16 frozen a 0 8" ∷ codes
    "1 1 17 frozen a 0 8" ∷ []) 17

-- a block is gathered with at most as many rows as it has slots
abbrev pub too_many_frozen_rows : Type 0
too_many_frozen_rows = FailsAt frozen_block
    (nine_replies ++ codes "1 1 15 sealed a 0 1" ∷ codes "1 1 16 frozen a 0 9" ∷ codes "1 1 17 at 1"
    ∷ codes "1 1 18 export 1 rows 9 batches 2 frozen 1" ∷ []) 16

-- a gathering of a sealed block does it
abbrev pub sealed_not_gathered : Type 0
sealed_not_gathered = FailsAt
    (sessions (keys 2) ((nine_rows ++ seal 1 0 ∷ gather 1 0 ∷ []) ∷ []))
    (nine_replies ++ codes "1 1 15 sealed a 0 1" ∷ codes "1 1 16 not frozen" ∷ []) 16

-- a compaction moves at most 64 rows
abbrev pub moved_too_many : Type 0
moved_too_many = FailsAt worker_alone
    (codes "1 w1 1 cooling 0" ∷ codes "1 w1 2 pruned 0" ∷ codes "1 w1 3 moved 65" ∷ []) 3

-- no more versions are pruned than committed transactions and moves made
abbrev pub pruned_too_many : Type 0
pruned_too_many = FailsAt
    (sessions (texts 2) ((begin 1 ∷ insert 1 1 (codes "x") ∷ commit 1 ∷ begin 1 ∷ [])
    ∷ (begin 2 ∷ update 2 1 (codes "y") ∷ commit 2 ∷ prune 2 ∷ [])
    ∷ (get 1 1 ∷ commit 1 ∷ prune 1 ∷ []) ∷ []))
    (codes "1 1 1 at 0" ∷ codes "1 1 2 ok" ∷ codes "1 1 3 committed 1" ∷ codes "1 1 4 at 1" ∷ codes
    "2 2 1 at 1"
    ∷ codes "2 2 2 ok" ∷ codes "2 2 3 committed 2" ∷ codes "2 2 4 pruned 3" ∷ codes
    "3 1 1 row 1 \"x\""
    ∷ codes "3 1 2 committed -" ∷ codes "3 1 3 pruned 1" ∷ []) 8

-- versions of a transaction that has not committed are not pruned
abbrev pub pruned_uncommitted : Type 0
pruned_uncommitted = FailsAt
    (sessions (texts 2) ((begin 1 ∷ insert 1 1 (codes "x") ∷ []) ∷ (prune 2 ∷ []) ∷ []))
    (codes "1 1 1 at 0" ∷ codes "1 1 2 ok" ∷ codes "2 2 1 pruned 1" ∷ []) 3
