-- A worker's turn: what it asks of tables and blocks, and what came of it.
use Rattle.std.specs.Prelude.{◌≡◌, ℕ, ◌+◌, ◌*◌, ◌^◌, true, false, List, [], ◌∷◌, ◌++◌, All, IfOk}
use Rattle.std.specs.Prelude.{Result, flat_map, map}
use Rattle.std.specs.Global.{Vec as GlobalVec}
use Rattle.std.specs.List.{enumerate_from, range_with_len}
use Rattle.cell_model.specs.declared.table.TableDecl.{TableDecl}
use Rattle.outcome_spec.specs.Forms.{turn_of}
use Rattle.run_laws.specs.Rounds.Lines.{told_by}
use Rattle.run_laws.specs.Rounds.Texts.{IsCounted}
use Rattle.run_spec.specs.Calls.{Call}
use Rattle.run_spec.specs.Handed.{Works}
use Rattle.shared_store.specs.Store.{KeepsOn, MakesAtMost, StoreView, most_blocks_in_table, reads_of}
use Rattle.shared_store.specs.Store.{seen}
use Rattle.store_rounds.specs.Sessions.{IsFreeSession}
use Rattle.shared_store.specs.Store.{shape_in}
use Rattle.shared_store.specs.declared.session.Session.{Session}
use Rattle.workload_spec.specs.declared.command.Command.{Command}
use Rattle.workload_spec.specs.declared.command.Command.TheVariants as command
use Rattle.workload_spec.specs.declared.reply.Said.{Said}
use Rattle.store_rounds.specs.Worked.{KeptAlong}
use Rattle.store_rounds.specs.declared.upkeep_lines.Lines.{Lines}

-- ---- what is asked

-- A block is sealed and gathered,
abbrev pub asked_of_block : ℕ → ℕ → List Command
asked_of_block table block = command.Seal table block ∷ command.Gather table block ∷ []

-- a table of so many blocks is compacted, and so is each of its blocks,
abbrev pub asked_of_table : ℕ → ℕ → List Command
asked_of_table table blocks =
    command.Compact table ∷ flat_map (asked_of_block table) (range_with_len 0 blocks)

-- and so are all tables.
abbrev pub asked_of_tables : List TableDecl → List Command
asked_of_tables tables =
    flat_map (λ entry. asked_of_table entry.0 entry.1.blocks) (enumerate_from 0 tables)

-- ---- how many events that makes at most

-- The seal and the gathering of a block make so many,
abbrev pub most_of_block : ℕ
most_of_block = 2

-- with the looks and the move of a compaction a table makes so many,
abbrev pub most_of_table : ℕ
most_of_table = most_blocks_in_table + 1 + most_of_block * most_blocks_in_table

-- the tables of a store so many,
abbrev pub most_of_tables : ℕ
most_of_tables = 16 * most_of_table

-- and a turn so many.
abbrev pub most_of_turn : ℕ
most_of_turn = 2 ^ 17

-- ---- what came of it

-- These are told behind what was told before, unless a line was lost.
abbrev pub Tells : Lines → Lines → List Said → Type 0
Tells before now told =
    now.lost ≡ false → (before.lost ≡ false) × (now.told.items ≡ before.told.items ++ told)

-- A worker of the store carried out these commands, one behind the other, and what they told, but
-- for the silent ones, is told behind what was told before. It made at most so many events.
pub record KeepsUp
    (store : StoreView) (old new : Session) (before now : Lines) (commands : List Command)
    (most : ℕ)
    : Type 0 where
  pub is_session : IsFreeSession store new
  pub same : new.session ≡ old.session
  pub calls : List Call
  pub works : Works (shape_in store) true old.session (seen old) calls (seen new)
  pub asked : map (λ call. call.command) calls ≡ commands
  pub counted : All IsCounted calls
  pub kept : KeptAlong (reads_of old) calls (reads_of new)
  pub keeps : KeepsOn store old new
  pub lines : Tells before now (told_by calls)
  pub few : MakesAtMost most old new

-- A worker of the store made a turn: it carried out the turn's commands, one behind the other, and
-- these lines are what they told, but for the silent ones.
pub record MadeTurn
    {E : Type 0} (store : StoreView) (old new : Session) (told : Result (GlobalVec Said) E)
    : Type 0 where
  pub is_session : IsFreeSession store new
  pub same : new.session ≡ old.session
  pub calls : List Call
  pub works : Works (shape_in store) true old.session (seen old) calls (seen new)
  pub asked : map (λ call. call.command) calls ≡ turn_of (shape_in store).tables
  pub counted : All IsCounted calls
  pub kept : KeptAlong (reads_of old) calls (reads_of new)
  pub keeps : KeepsOn store old new
  pub lines : IfOk told (λ lines. lines.items ≡ told_by calls)
  pub few : MakesAtMost most_of_turn old new
