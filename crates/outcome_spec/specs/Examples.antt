-- Worked examples of explained outputs, as facts.
use Rattle.std.specs.Prelude.{[], ◌∷◌, ◌++◌, codes}
use Rattle.outcome_spec.specs.Samples.{texts, keys, sessions, begin, get, scan, insert, inserts}
use Rattle.outcome_spec.specs.Samples.{update, touch, put, puts, delete, commit, abort, observe}
use Rattle.outcome_spec.specs.Samples.{prune, compact, seal, gather, export, nine_rows}
use Rattle.outcome_spec.specs.Samples.{nine_replies, Explains}
use Rattle.outcome_spec.specs.Scripts.{reader_and_writer, reader_that_writes, two_inserts}
use Rattle.outcome_spec.specs.Scripts.{two_commits, frozen_block, worker_alone, busy_worker_script}

-- one session inserts a row, commits and reads it
abbrev pub one_session : Type 0
one_session = Explains
    (sessions (texts 2) ((begin 1 ∷ insert 1 1 (codes "x") ∷ commit 1 ∷ begin 1 ∷ get 1 1 ∷ [])
    ∷ []))
    (codes "1 1 1 at 0" ∷ codes "1 1 2 ok" ∷ codes "1 1 3 committed 1" ∷ codes "1 1 4 at 1" ∷ codes
    "1 1 5 row 1 \"x\"" ∷ [])

-- an older snapshot does not see a later commit
abbrev pub older_snapshot : Type 0
older_snapshot = Explains reader_and_writer
    (codes "1 1 1 at 0" ∷ codes "2 2 1 at 0" ∷ codes "2 2 2 ok" ∷ codes "2 2 3 committed 1" ∷ codes
    "3 1 1 none" ∷ [])

-- a key that a later commit wrote is a conflict, although it is missing at the snapshot
abbrev pub later_commit : Type 0
later_commit = Explains reader_that_writes
    (codes "1 1 1 at 0" ∷ codes "2 2 1 at 0" ∷ codes "2 2 2 ok" ∷ codes "2 2 3 committed 1" ∷ codes
    "3 1 1 none"
    ∷ codes "4 1 1 conflict #1" ∷ [])

-- a key that an open transaction wrote is a conflict until that one ends
abbrev pub open_rival : Type 0
open_rival = Explains
    (sessions (texts 2) ((begin 1 ∷ insert 1 7 (codes "x") ∷ [])
    ∷ (begin 2 ∷ insert 2 7 (codes "y") ∷ []) ∷ (abort 1 ∷ []) ∷ (insert 2 7 (codes "y") ∷ [])
    ∷ []))
    (codes "1 1 1 at 0" ∷ codes "1 1 2 ok" ∷ codes "2 2 1 at 0" ∷ codes "2 2 2 conflict session 1"
    ∷ codes "3 1 1 aborted"
    ∷ codes "4 2 1 ok" ∷ [])

-- of two inserts of one key in one round either may be the first
abbrev pub either_wins : Type 0
either_wins =
    Explains two_inserts (codes "1 1 1 at 0" ∷ codes "1 1 2 ok" ∷ codes "1 2 1 at 0" ∷ codes
    "1 2 2 conflict session 1" ∷ [])
    × Explains two_inserts (codes "1 1 1 at 0" ∷ codes "1 1 2 conflict session 2" ∷ codes
    "1 2 1 at 0" ∷ codes "1 2 2 ok" ∷ [])

-- of two writers of one key in one round one commits, and the other sees the conflict
abbrev pub first_committer : Type 0
first_committer =
    Explains two_commits (codes "1 1 1 at 0" ∷ codes "2 2 1 at 0" ∷ codes "3 1 1 ok" ∷ codes
    "3 1 2 committed 1" ∷ codes "3 2 1 conflict #1"
    ∷ codes "3 2 2 committed -" ∷ [])
    × Explains two_commits (codes "1 1 1 at 0" ∷ codes "2 2 1 at 0" ∷ codes
    "3 1 1 conflict session 2" ∷ codes "3 1 2 committed -" ∷ codes "3 2 1 ok"
    ∷ codes "3 2 2 committed 1" ∷ [])

-- one key is inserted, deleted and inserted in one transaction
abbrev pub one_key_thrice : Type 0
one_key_thrice = Explains
    (sessions (texts 2) ((begin 1 ∷ insert 1 3 (codes "x") ∷ delete 1 3 ∷ insert 1 3 (codes "y")
    ∷ commit 1 ∷ begin 1 ∷ get 1 3 ∷ prune 1 ∷ []) ∷ []))
    (codes "1 1 1 at 0" ∷ codes "1 1 2 ok" ∷ codes "1 1 3 ok" ∷ codes "1 1 4 ok" ∷ codes
    "1 1 5 committed 1" ∷ codes "1 1 6 at 1"
    ∷ codes "1 1 7 row 3 \"y\"" ∷ codes "1 1 8 pruned 3" ∷ [])

-- an older snapshot reads the old version of a row while later ones are pruned
abbrev pub old_version : Type 0
old_version = Explains
    (sessions (texts 2) ((begin 1 ∷ insert 1 1 (codes "x") ∷ commit 1 ∷ begin 1 ∷ [])
    ∷ (begin 2 ∷ update 2 1 (codes "y") ∷ commit 2 ∷ prune 2 ∷ [])
    ∷ (get 1 1 ∷ commit 1 ∷ prune 1 ∷ []) ∷ []))
    (codes "1 1 1 at 0" ∷ codes "1 1 2 ok" ∷ codes "1 1 3 committed 1" ∷ codes "1 1 4 at 1" ∷ codes
    "2 2 1 at 1"
    ∷ codes "2 2 2 ok" ∷ codes "2 2 3 committed 2" ∷ codes "2 2 4 pruned 1" ∷ codes
    "3 1 1 row 1 \"x\""
    ∷ codes "3 1 2 committed -" ∷ codes "3 1 3 pruned 1" ∷ [])

-- commands without a transaction, and a second begin
abbrev pub misuse : Type 0
misuse = Explains
    (sessions (texts 2) ((get 1 1 ∷ begin 1 ∷ begin 1 ∷ abort 1 ∷ commit 1 ∷ []) ∷ []))
    (codes "1 1 1 no transaction" ∷ codes "1 1 2 at 0" ∷ codes "1 1 3 in transaction" ∷ codes
    "1 1 4 aborted"
    ∷ codes "1 1 5 no transaction" ∷ [])

-- a sealed block refuses a change until it is gathered; the head is not sealed, and a block that is
-- not sealed not gathered
abbrev pub seal_and_gather : Type 0
seal_and_gather = Explains
    (sessions (keys 2) ((nine_rows
    ++ seal 1 0 ∷ seal 1 1 ∷ begin 1 ∷ touch 1 1 ∷ gather 1 0 ∷ gather 1 1 ∷ touch 1 1 ∷ commit
    1 ∷ []) ∷ []))
    (nine_replies ++ codes "1 1 15 sealed a 0 1" ∷ codes "1 1 16 not sealed head" ∷ codes
    "1 1 17 at 1" ∷ codes "1 1 18 freezing a 0 1"
    ∷ codes "1 1 19 frozen a 0 8" ∷ codes "1 1 20 not frozen" ∷ codes "1 1 21 ok" ∷ codes
    "1 1 22 committed 2" ∷ [])

-- an export of nine rows in two batches, one of them the image of a frozen block
abbrev pub frozen_export : Type 0
frozen_export = Explains frozen_block
    (nine_replies ++ codes "1 1 15 sealed a 0 1" ∷ codes "1 1 16 frozen a 0 8" ∷ codes "1 1 17 at 1"
    ∷ codes "1 1 18 export 1 rows 9 batches 2 frozen 1" ∷ [])

-- an export after a write in the table
abbrev pub dirty_export : Type 0
dirty_export = Explains
    (sessions (texts 2) ((begin 1 ∷ insert 1 4 (codes "x") ∷ export 1 ∷ []) ∷ []))
    (codes "1 1 1 at 0" ∷ codes "1 1 2 ok" ∷ codes "1 1 3 dirty 4" ∷ [])

-- a table of one block is full after eight inserts, also of an aborted transaction until it is
-- aborted
abbrev pub full_table : Type 0
full_table = Explains
    (sessions (keys 1) ((begin 1 ∷ (puts 1 9 ++ abort 1 ∷ begin 1 ∷ put 1 1 ∷ [])) ∷ []))
    (codes "1 1 1 at 0" ∷ codes "1 1 2 ok" ∷ codes "1 1 3 ok" ∷ codes "1 1 4 ok" ∷ codes "1 1 5 ok"
    ∷ codes "1 1 6 ok"
    ∷ codes "1 1 7 ok" ∷ codes "1 1 8 ok" ∷ codes "1 1 9 ok" ∷ codes "1 1 10 full" ∷ codes
    "1 1 11 aborted" ∷ codes "1 1 12 at 0"
    ∷ codes "1 1 13 ok" ∷ [])

-- rows that a compaction moves are seen once by older and later snapshots, and are no conflict
abbrev pub moved_rows : Type 0
moved_rows = Explains
    (sessions (texts 3) ((begin 1
    ∷ (inserts 1 17 (codes "x") ++ commit 1 ∷ begin 1 ∷ delete 1 2 ∷ delete 1 4 ∷ commit 1
    ∷ prune 1 ∷ begin 1 ∷ [])) ∷ (begin 2 ∷ delete 2 9 ∷ commit 2 ∷ observe 2 ∷ observe 2
    ∷ compact 2 ∷ []) ∷ (scan 1 ∷ begin 2 ∷ scan 2 ∷ [])
    ∷ (update 1 16 (codes "y") ∷ update 1 9 (codes "y") ∷ scan 1 ∷ commit 1 ∷ [])
    ∷ (get 2 16 ∷ []) ∷ []))
    (codes "1 1 1 at 0" ∷ codes "1 1 2 ok" ∷ codes "1 1 3 ok" ∷ codes "1 1 4 ok" ∷ codes "1 1 5 ok"
    ∷ codes "1 1 6 ok"
    ∷ codes "1 1 7 ok" ∷ codes "1 1 8 ok" ∷ codes "1 1 9 ok" ∷ codes "1 1 10 ok" ∷ codes "1 1 11 ok"
    ∷ codes "1 1 12 ok"
    ∷ codes "1 1 13 ok" ∷ codes "1 1 14 ok" ∷ codes "1 1 15 ok" ∷ codes "1 1 16 ok" ∷ codes
    "1 1 17 ok" ∷ codes "1 1 18 ok"
    ∷ codes "1 1 19 committed 1" ∷ codes "1 1 20 at 1" ∷ codes "1 1 21 ok" ∷ codes "1 1 22 ok"
    ∷ codes "1 1 23 committed 2"
    ∷ codes "1 1 24 pruned 19" ∷ codes "1 1 25 at 2" ∷ codes "2 2 1 at 2" ∷ codes "2 2 2 ok" ∷ codes
    "2 2 3 committed 3"
    ∷ codes "2 2 4 cooling 0" ∷ codes "2 2 5 cooling 2" ∷ codes "2 2 6 moved 2" ∷ codes
    "3 1 1 rows 15" ∷ codes "| 1 \"x\""
    ∷ codes "| 3 \"x\"" ∷ codes "| 5 \"x\"" ∷ codes "| 6 \"x\"" ∷ codes "| 7 \"x\"" ∷ codes
    "| 8 \"x\"" ∷ codes "| 9 \"x\""
    ∷ codes "| 10 \"x\"" ∷ codes "| 11 \"x\"" ∷ codes "| 12 \"x\"" ∷ codes "| 13 \"x\"" ∷ codes
    "| 14 \"x\"" ∷ codes "| 15 \"x\""
    ∷ codes "| 16 \"x\"" ∷ codes "| 17 \"x\"" ∷ codes "3 2 1 at 3" ∷ codes "3 2 2 rows 14" ∷ codes
    "| 1 \"x\""
    ∷ codes "| 3 \"x\"" ∷ codes "| 5 \"x\"" ∷ codes "| 6 \"x\"" ∷ codes "| 7 \"x\"" ∷ codes
    "| 8 \"x\"" ∷ codes "| 10 \"x\""
    ∷ codes "| 11 \"x\"" ∷ codes "| 12 \"x\"" ∷ codes "| 13 \"x\"" ∷ codes "| 14 \"x\"" ∷ codes
    "| 15 \"x\"" ∷ codes "| 16 \"x\""
    ∷ codes "| 17 \"x\"" ∷ codes "4 1 1 ok" ∷ codes "4 1 2 conflict #3" ∷ codes "4 1 3 rows 15"
    ∷ codes "| 1 \"x\""
    ∷ codes "| 3 \"x\"" ∷ codes "| 5 \"x\"" ∷ codes "| 6 \"x\"" ∷ codes "| 7 \"x\"" ∷ codes
    "| 8 \"x\"" ∷ codes "| 9 \"x\""
    ∷ codes "| 10 \"x\"" ∷ codes "| 11 \"x\"" ∷ codes "| 12 \"x\"" ∷ codes "| 13 \"x\"" ∷ codes
    "| 14 \"x\"" ∷ codes "| 15 \"x\""
    ∷ codes "| 16 \"y\"" ∷ codes "| 17 \"x\"" ∷ codes "4 1 4 committed 4" ∷ codes
    "5 2 1 row 16 \"x\"" ∷ [])

-- a worker with nothing to do, with one that is refused memory
abbrev pub idle_worker : Type 0
idle_worker =
    Explains worker_alone (codes "1 w1 1 cooling 0" ∷ codes "1 w1 2 pruned 0" ∷ codes
    "1 w1 3 moved 0" ∷ [])
    × Explains worker_alone (codes "1 w1 1 cooling 0" ∷ codes "1 w1 2 pruned 0" ∷ codes
    "1 w1 3 memory" ∷ [])
    × Explains worker_alone (codes "1 w1 1 cooling 0" ∷ codes "1 w1 2 pruned 0" ∷ codes
    "1 w1 3 moved 0" ∷ codes "1 w1 4 memory" ∷ codes "1 w1 5 memory" ∷ [])

-- a worker freezes a block while another gathering is refused memory
abbrev pub busy_worker : Type 0
busy_worker =
    Explains busy_worker_script (nine_replies
    ++ codes "1 w1 1 cooling 0" ∷ codes "1 w1 2 pruned 0" ∷ codes "1 w1 3 moved 0" ∷ codes
    "1 w1 4 sealed a 0 1"
    ∷ codes "1 w1 5 frozen a 0 8" ∷ [])
    × Explains busy_worker_script
    (nine_replies ++ codes "1 w1 1 cooling 0" ∷ codes "1 w1 2 pruned 0" ∷ codes
    "1 w1 3 memory" ∷ codes "1 w1 4 sealed a 0 1"
    ∷ codes "1 w1 5 memory" ∷ [])

-- of the later commits of a key the last is named
abbrev pub last_commit_named : Type 0
last_commit_named = Explains
    (sessions (texts 2) ((begin 1 ∷ [])
    ∷ (begin 2 ∷ insert 2 5 (codes "x") ∷ commit 2 ∷ begin 2 ∷ update 2 5 (codes "y") ∷ commit 2
    ∷ []) ∷ (update 1 5 (codes "z") ∷ []) ∷ []))
    (codes "1 1 1 at 0" ∷ codes "2 2 1 at 0" ∷ codes "2 2 2 ok" ∷ codes "2 2 3 committed 1" ∷ codes
    "2 2 4 at 1"
    ∷ codes "2 2 5 ok" ∷ codes "2 2 6 committed 2" ∷ codes "3 1 1 conflict #2" ∷ [])
