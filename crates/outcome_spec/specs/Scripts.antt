-- The scripts of several worked examples.
use Rattle.std.specs.Prelude.{[], ◌∷◌, ◌++◌, codes}
use Rattle.workload_spec.specs.declared.script.Script.{Script}
use Rattle.outcome_spec.specs.Samples.{texts, keys, sessions, with_worker, begin, get, scan, insert}
use Rattle.outcome_spec.specs.Samples.{update, touch, put, commit, abort, seal, gather, export}
use Rattle.outcome_spec.specs.Samples.{nine_rows}

-- a transaction reads a key that another inserts and commits after its snapshot
abbrev pub reader_and_writer : Script
reader_and_writer = sessions (texts 2)
    ((begin 1 ∷ []) ∷ (begin 2 ∷ insert 2 5 (codes "x") ∷ commit 2 ∷ []) ∷ (get 1 5 ∷ []) ∷ [])

-- the same, and then the reader writes the key
abbrev pub reader_that_writes : Script
reader_that_writes = sessions (texts 2)
    ((begin 1 ∷ []) ∷ (begin 2 ∷ insert 2 5 (codes "x") ∷ commit 2 ∷ []) ∷ (get 1 5 ∷ [])
    ∷ (update 1 5 (codes "z") ∷ []) ∷ [])

-- two transactions insert one key in one round
abbrev pub two_inserts : Script
two_inserts = sessions (texts 2)
    ((begin 1 ∷ insert 1 1 (codes "x") ∷ begin 2 ∷ insert 2 1 (codes "y") ∷ []) ∷ [])

-- two transactions write one key and commit in one round
abbrev pub two_commits : Script
two_commits = sessions (texts 2)
    ((begin 1 ∷ []) ∷ (begin 2 ∷ [])
    ∷ (insert 1 1 (codes "x") ∷ commit 1 ∷ insert 2 1 (codes "y") ∷ commit 2 ∷ []) ∷ [])

-- a scan of two rows
abbrev pub scan_of_two : Script
scan_of_two = sessions (keys 2)
    ((begin 1 ∷ put 1 1 ∷ put 1 2 ∷ scan 1 ∷ abort 1 ∷ []) ∷ [])

-- the first of two blocks is sealed and gathered, and then a row of it changes
abbrev pub sealed_block : Script
sealed_block = sessions (keys 2)
    ((nine_rows ++ seal 1 0 ∷ begin 1 ∷ touch 1 1 ∷ gather 1 0 ∷ touch 1 1 ∷ commit 1 ∷ []) ∷ [])

-- the first block is sealed and gathered, and the table is exported
abbrev pub frozen_block : Script
frozen_block = sessions (keys 2)
    ((nine_rows ++ seal 1 0 ∷ gather 1 0 ∷ begin 1 ∷ export 1 ∷ []) ∷ [])

-- a worker makes one turn over a table of two blocks
abbrev pub worker_alone : Script
worker_alone = with_worker (keys 2)
    ([] ∷ [])

-- two transactions commit, one after the other
abbrev pub commits_in_turn : Script
commits_in_turn = sessions (texts 2)
    ((begin 1 ∷ insert 1 1 (codes "x") ∷ []) ∷ (begin 2 ∷ insert 2 2 (codes "x") ∷ [])
    ∷ (commit 1 ∷ []) ∷ (commit 2 ∷ []) ∷ [])

-- two commits write a key after a snapshot, and then the older transaction writes it
abbrev pub two_later_commits : Script
two_later_commits = sessions (texts 2)
    ((begin 1 ∷ []) ∷ (begin 2 ∷ insert 2 5 (codes "x") ∷ commit 2 ∷ begin 2 ∷ update 2 5
    (codes "y") ∷ commit 2 ∷ []) ∷ (update 1 5 (codes "z") ∷ []) ∷ [])

-- a worker freezes a block while another gathering is refused memory
abbrev pub busy_worker_script : Script
busy_worker_script = with_worker (keys 2)
    ((nine_rows) ∷ [])
