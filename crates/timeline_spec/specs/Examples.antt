-- Worked examples: how a worker's line of refused memory is read, a timeline that is not the order
-- of the lines, and what comes about between a store and its blocks.
use Rattle.std.specs.Prelude.{◌≡◌, ℕ, List, [], ◌∷◌, ◌++◌, map, take, drop, replicate, pos, codes}
use Rattle.std.specs.Prelude.{Option, None, Some, Ok}
use Rattle.std.specs.List.{range_with_len}
use Rattle.isolation_spec.specs.Contents.{History, place_at}
use Rattle.isolation_spec.specs.Machine.{IsolationMachine, opening, opening_from}
use Rattle.outcome_spec.specs.Explained.{replies_of}
use Rattle.workload_spec.specs.declared.command.Command.{Command}
use Rattle.workload_spec.specs.declared.command.Command.TheVariants as command
use Rattle.workload_spec.specs.declared.script.Script.{Script}
use Rattle.workload_spec.specs.declared.reply.Who.TheVariants.{Session}
use Rattle.workload_spec.specs.declared.reply.SealCause.TheVariants as cause
use Rattle.workload_spec.specs.declared.reply.Said.{Said}
use Rattle.workload_spec.specs.declared.reply.Said.TheVariants as said
use Rattle.workload_spec.specs.declared.reply.StaleRead.TheVariants as stale
use Rattle.outcome_spec.specs.Entries.{Entry}
use Rattle.outcome_spec.specs.Forms.{dues_of}
use Rattle.outcome_spec.specs.Samples.{texts, keys, key_row, sessions, with_worker, begin, insert}
use Rattle.outcome_spec.specs.Samples.{put, puts, touch, delete, commit, prune, compact, seal}
use Rattle.outcome_spec.specs.Samples.{gather, export, begin_checked, get}
use Rattle.timeline_spec.specs.Timeline.{Timeline, InOrder, Runs, RunsFrom, Counts, CountsFrom, Aside}
use Rattle.timeline_spec.specs.Printed.{printed_of, text_of}
use Rattle.timeline_spec.specs.Forms.{AllMayStand}

-- one round of a worker alone, over two blocks
abbrev pub two_blocks : Script
two_blocks = with_worker (texts 2) ([] ∷ [])

-- its turn, with these answers to its two gatherings; it seals nothing
abbrev pub gathers : Option Said → Option Said → List (Option Said)
gathers first second = Some (said.Cooling 0) ∷ Some (said.Pruned 0) ∷ Some (said.Moved 0) ∷ None
    ∷ first ∷ None ∷ second ∷ []

-- Where one of the two gatherings was refused memory, the lines don't tell which, nor does what is
-- read from them.
abbrev pub OneWasRefused : Type 0
OneWasRefused =
    (replies_of two_blocks (text_of two_blocks (gathers None (Some said.Memory)))
    ≡ Ok (printed_of two_blocks (gathers (Some said.Memory) None)))
    × (printed_of two_blocks (gathers None (Some said.Memory))
    ≡ printed_of two_blocks (gathers (Some said.Memory) None))

-- One round of two sessions that insert one key: the first session's lines are printed first, but
-- the second one's replies came about first.
abbrev pub two_inserts : Script
two_inserts = sessions (texts 1)
    ((begin 1 ∷ insert 1 1 (codes "x") ∷ begin 2 ∷ insert 2 1 (codes "y") ∷ []) ∷ [])

abbrev pub second_wins : List Entry
second_wins = printed_of two_inserts
    (map Some (said.At 0 ∷ said.ConflictSession 2 ∷ said.At 0 ∷ said.Accepted ∷ []))

abbrev pub SecondCameFirst : Type 0
SecondCameFirst = Timeline (texts 1 ∷ []) second_wins (drop 2 second_wins ++ take 2 second_wins)

-- A session alone fills a table of one block, which is sealed, gathered, exported and compacted.
abbrev pub one_block : Script
one_block = sessions (keys 1) (
    (begin 1 ∷ (puts 1 8 ++ commit 1 ∷ seal 1 0 ∷ begin 1 ∷ touch 1 3 ∷ put 1 9 ∷ gather 1 0
    ∷ gather 1 0 ∷ export 1
    ∷ delete 1 3 ∷ export 1 ∷ commit 1 ∷ compact 1 ∷ prune 1 ∷ seal 1 0 ∷ compact 1 ∷ []))
    ∷ [])

-- what it is told, from its first commit on
abbrev pub blocks_told : List Said
blocks_told =
    said.Committed (Some 1) ∷ said.Sealed 0 0 1 ∷ said.At 1 ∷ said.Freezing 0 0 1 ∷ said.Full
    ∷ said.Frozen 0 0 8 ∷ said.NotFrozen
    ∷ said.Exported 1 8 1 1 ∷ said.Accepted ∷ said.Dirty (pos 3) ∷ said.Committed (Some 2)
    ∷ said.Moved 2 ∷ said.Pruned 13
    ∷ said.NotSealed cause.Hot ∷ said.Memory ∷ []

abbrev pub block_replies : List (Option Said)
block_replies = map Some (said.At 0 ∷ (replicate 8 said.Accepted ++ blocks_told))

abbrev pub block_entries : List Entry
block_entries = printed_of one_block block_replies

-- So they come about, one after another.
abbrev pub BlocksComeAbout : Type 0
BlocksComeAbout = AllMayStand (dues_of one_block) block_replies
    × Runs one_block.tables [] opening block_entries

-- A checked session gets a key that has no row, and writes another; a second session commits that
-- key, and the first one's commit is refused.
abbrev pub stale_reader : Script
stale_reader = sessions (texts 1)
    ((begin_checked 1 ∷ get 1 5 ∷ insert 1 1 (codes "x") ∷ [])
    ∷ (begin 2 ∷ insert 2 5 (codes "y") ∷ commit 2 ∷ []) ∷ (commit 1 ∷ []) ∷ [])

abbrev pub stale_told : List (Option Said)
stale_told = map Some (said.At 0 ∷ said.Absent ∷ said.Accepted ∷ said.At 0 ∷ said.Accepted
    ∷ said.Committed (Some 1) ∷ said.Stale (stale.Key 0 (pos 5)) 1 ∷ [])

abbrev pub StaleComesAbout : Type 0
StaleComesAbout = AllMayStand (dues_of stale_reader) stale_told
    × Runs stale_reader.tables [] opening (printed_of stale_reader stale_told)

-- the reply does not come about behind the first so many of them
abbrev pub IsUncounted : ℕ → Command → Said → Type 0
IsUncounted count asked told = Counts one_block.tables (take count block_entries) asked told → ⊥

-- A table is full with no slot left, and a block that is not sealed freezes nothing. A seal has the
-- next stamp, and none is sealed twice. A write names the block's last stamp. A sealed block is
-- gathered, with its rows. A compaction moves 64 rows at most, and leaves two versions of each.
abbrev pub OthersDoNot : Type 0
OthersDoNot =
    IsUncounted 8 (command.Insert 0 (key_row 9)) said.Full
    × IsUncounted 10 (command.Update 0 (key_row 3)) (said.Freezing 0 0 1)
    × IsUncounted 10 (command.Seal 0 0) (said.Sealed 0 0 2)
    × IsUncounted 10 (command.Gather 0 0) (said.Frozen 0 0 8)
    × IsUncounted 11 (command.Seal 0 0) (said.Sealed 0 0 2)
    × IsUncounted 11 (command.Update 0 (key_row 3)) (said.Freezing 0 0 2)
    × IsUncounted 11 (command.Gather 0 0) said.NotFrozen
    × IsUncounted 11 (command.Gather 0 0) (said.Frozen 0 0 0)
    × IsUncounted 11 (command.Gather 0 0) (said.Frozen 0 0 9)
    × IsUncounted 15 (command.Update 0 (key_row 3)) (said.Freezing 0 0 1)
    × IsUncounted 20 (command.Compact 0) (said.Moved 65)
    × IsUncounted 21 command.Prune (said.Pruned 14)
    × IsUncounted 22 command.Prune (said.Pruned 1)

-- A store that begins with a commit of seven of the table's eight rows: a session sees it, adds a
-- row, finds the table full, and commits behind it.
abbrev pub seven_rows : History
seven_rows = map (λ key. (place_at 0 (pos key), Some (key_row key))) (range_with_len 1 7) ∷ []

abbrev pub nearly_full : Script
nearly_full = record (sessions (keys 1)
    ((begin 1 ∷ put 1 8 ∷ put 1 9 ∷ commit 1 ∷ []) ∷ [])) { begun = seven_rows }

abbrev pub full_told : List (Option Said)
full_told = map Some (said.At 1 ∷ said.Accepted ∷ said.Full ∷ said.Committed (Some 2) ∷ [])

abbrev pub FullComesAbout : Type 0
FullComesAbout =
    RunsFrom seven_rows nearly_full.tables [] (opening_from seven_rows)
    (printed_of nearly_full full_told)
    × (CountsFrom seven_rows nearly_full.tables [] (command.Insert 0 (key_row 8)) said.Full → ⊥)

-- eight rows were committed, and the session's transaction has them in its snapshot
abbrev pub eight : IsolationMachine
eight = record {
  history = map (λ key. (record { table = 0; key = pos key }, Some (key_row key)))
      (range_with_len 1 8) ∷ [];
  open_transactions = record { session = 1; snapshot = 1; own = [] } ∷ [];
}

-- the transaction has deleted the key 3
abbrev pub seven : IsolationMachine
seven = record eight {
  open_transactions = record {
    session = 1;
    snapshot = 1;
    own = (record { table = 0; key = pos 3 }, None) ∷ [];
  } ∷ [];
}

-- the transaction has no row in its snapshot
abbrev pub none : IsolationMachine
none = record {
  history = [];
  open_transactions = record { session = 1; snapshot = 0; own = [] } ∷ [];
}

-- a command that asks nothing of the machine is not told so behind the first so many of them
abbrev pub IsNotTold : ℕ → IsolationMachine → Command → Said → Type 0
IsNotTold count machine asked told = Aside one_block.tables (take count block_entries) machine
    (Session 1) asked told → ⊥

abbrev pub IsNoExport : ℕ → IsolationMachine → Said → Type 0
IsNoExport count machine told = IsNotTold count machine (command.Export 0) told

-- An export names its transaction's snapshot and has all its rows, in batches of blocks, none of
-- them empty, of which at most those are images that were frozen. Where the transaction wrote, it
-- names the least key. A compaction is not told what a write is, and a write asks the machine.
abbrev pub OthersAreNotExported : Type 0
OthersAreNotExported =
    IsNoExport 17 eight (said.Exported 0 8 1 1)
    × IsNoExport 17 eight (said.Exported 1 7 1 1)
    × IsNoExport 17 eight (said.Exported 1 8 0 0)
    × IsNoExport 17 eight (said.Exported 1 8 2 1)
    × IsNoExport 14 eight (said.Exported 1 8 1 1)
    × IsNoExport 17 eight (said.Exported 1 8 1 2)
    × IsNoExport 17 eight (said.Dirty (pos 3))
    × IsNoExport 17 eight said.NoTransaction
    × IsNoExport 17 eight (said.Frozen 0 0 8)
    × IsNoExport 17 seven (said.Exported 1 8 1 1)
    × IsNoExport 17 seven (said.Dirty (pos 4))
    × IsNoExport 17 opening (said.Exported 0 0 0 0)
    × IsNoExport 17 none (said.Exported 0 0 1 0)
    × IsNotTold 17 eight (command.Compact 0) said.Accepted
    × IsNotTold 17 eight (command.Insert 0 (key_row 9)) (said.Moved 0)

-- Two replies to one session are in their order, also behind others.
abbrev pub OthersAreNoTimeline : Type 0
OthersAreNoTimeline =
    (InOrder (drop 1 (take 2 second_wins) ++ take 1 second_wins) → ⊥)
    × (InOrder (take 1 second_wins ++ drop 3 second_wins ++ take 1 (drop 2 second_wins)) → ⊥)
