-- What a scan's reads tell, block after block, and the steps.
use Rattle.std.specs.Prelude.{◌≡◌, ⊤, ℕ, ◌+◌, ◌*◌, ◌≤◌, false, not, List, [], ◌∷◌, ◌++◌, count_by}
use Rattle.std.specs.Prelude.{All, flat_map, length, map, OnOk, Result}
use Rattle.block_spec.specs.Slots.{Row}
use Rattle.cell_model.specs.Rows.{Fits}
use Rattle.event_spec.specs.declared.event.Event.TheVariants as event
use Rattle.event_spec.specs.declared.own.OwnTransaction.{OwnTransaction}
use Rattle.event_spec.specs.Parts.{Shape, below, slots_of}
use Rattle.event_spec.specs.Replay.{columns_in}
use Rattle.event_spec.specs.Replies.{CoreReply}
use Rattle.run_spec.specs.Asked.{at_blocks}
use Rattle.run_spec.specs.Calls.{is_final, is_memory, is_refused}
use Rattle.run_spec.specs.Occurrences.{Occurrence, events_in, replies_in}
use Rattle.run_spec.specs.Told.{is_shared, rows_told}
use Rattle.shared_store.specs.Reading.{ReadsBlock, Went}
use Rattle.workload_spec.specs.declared.command.Command.TheVariants as command
use Rattle.workload_spec.specs.declared.reply.Said.{Said}
use Rattle.shared_store.specs.Store.{Answers, IsFree, StoreView, shape_in}
use Rattle.shared_store.specs.declared.session.Session.{Session}

-- How many steps the reads of a scan may take that were told this: of a block that was not frozen
-- each slot is looked at once, and of any block each row that was told is made once.
abbrev pub scan_cost : Shape → ℕ → List CoreReply → ℕ
scan_cost shape table replies =
    slots_of shape table * count_by (λ told. not (is_shared told)) replies
    + length (flat_map rows_told replies)

-- A block was read, and with Ok its rows stand behind those before. Nothing is lent behind it.
pub record ReadsInto
    {T E : Type 0} (store : StoreView) (old new : Session) (own : OwnTransaction) (table at : ℕ)
    (before now : List Row) (spent steps : ℕ) (result : Result T E)
    : Type 0 where
  pub told : CoreReply
  pub reads : ReadsBlock store old new own table at told
  pub free : IsFree new
  pub granted : OnOk result (is_memory told ≡ false)
  pub rows : OnOk result (now ≡ before ++ rows_told told)
  pub few : steps ≤ spent + scan_cost (shape_in store) table (told ∷ [])
  pub unlooked : reads.made ≡ [] → steps ≤ spent

-- none was refused memory, and none is one that ends a call
abbrev pub ArePlain : List Occurrence → Type 0
ArePlain [] = ⊤
ArePlain (occurrence ∷ rest) =
    (is_refused occurrence ≡ false) × (is_final occurrence.event ≡ false) × ArePlain rest

-- So many blocks of the table were read, and told these rows.
pub record Scans
    (store : StoreView) (old new : Session) (own : OwnTransaction) (table count : ℕ)
    (read : List Row)
    : Type 0 where
  pub made : List Occurrence
  pub went : Went store old new (at_blocks (shape_in store) table (event.Read own table)) made
  pub events : events_in made ≡ map (event.Read own table) (below count)
  pub plain : ArePlain made
  pub rows : read ≡ flat_map rows_told (replies_in made)
  pub fits : All (Fits (columns_in (shape_in store) table)) read

-- What the session's reads were told bounds the steps of a scan that told this line.
pub record ReadsOnce
    (store : StoreView) (old new : Session) (table : ℕ) (told : Said) (spent steps : ℕ)
    : Type 0 where
  pub answers : Answers store old new (command.Scan table) told
  pub few : steps ≤ spent + scan_cost (shape_in store) table (replies_in answers.made)
