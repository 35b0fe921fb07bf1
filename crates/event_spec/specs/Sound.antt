-- What holds of every state that lawful events reach.
use Rattle.std.specs.Prelude.{◌≡◌, ◌≢◌, ⊤, ℕ, ◌<◌, ◌≤◌, ◌*◌, ◌^◌, true, false, not, ◌&&◌, ◌==◌}
use Rattle.std.specs.Prelude.{Option, Some, All, [], filter, length}
use Rattle.block_spec.specs.declared.phase.Phase.TheVariants.{Sealed, Imaged}
use Rattle.block_spec.specs.Fitting.{columns_of}
use Rattle.block_spec.specs.Slots.{Slot, is_bare}
use Rattle.block_spec.specs.Bodies.{Body, slot_in, has_row, is_loose, is_empty, is_quiet, is_dense}
use Rattle.event_spec.specs.declared.part.Part.TheVariants as part
use Rattle.event_spec.specs.Follows.{Follows}
use Rattle.event_spec.specs.Lawful.{HasTable, HasBlock}
use Rattle.event_spec.specs.Parts.{CorePart, Parts, Shape, Name, HeadOf, ShardOf, BodyOf, TheDesk}
use Rattle.event_spec.specs.Parts.{names, part_at, head_at, body_at, desk_at, slot_at, places_at}
use Rattle.event_spec.specs.Parts.{blocks_of, slots_of, below}
use Rattle.event_spec.specs.Replay.{columns_in, rows_first}
use Rattle.event_spec.specs.SlotSound.{VersionsFit}
use Rattle.isolation_spec.specs.Commits.{AreCommitsOf}
use Rattle.isolation_spec.specs.Machine.{IsolationMachine}

-- The part of a name is there and of its kind.
abbrev pub IsOfKind : Name → Option CorePart → Type 0
IsOfKind (HeadOf table) (Some (part.Head head)) = ⊤
IsOfKind (ShardOf table shard) (Some (part.Shard places)) = ⊤
IsOfKind (BodyOf table block) (Some (part.Body body)) = ⊤
IsOfKind TheDesk (Some (part.Desk desk)) = ⊤
IsOfKind _ _ = ⊥

-- A head: its block is loose, its slots from `taken` on are bare, none is taken where the block is
-- empty, and it knows the other empty blocks.
pub record HeadHolds (shape : Shape) (parts : Parts) (table : ℕ) : Type 0 where
  pub block : HasBlock shape table (head_at shape parts table).block
  pub taken : (head_at shape parts table).taken ≤ slots_of shape table
  pub unused : (slot : ℕ) → (head_at shape parts table).taken ≤ slot
      → is_bare (slot_in (body_at shape parts table (head_at shape parts table).block) slot) ≡ true
  pub loose : is_loose (body_at shape parts table (head_at shape parts table).block).phase ≡ true
  pub anew : is_empty (body_at shape parts table (head_at shape parts table).block) ≡ true
      → (head_at shape parts table).taken ≡ 0
  pub empty : (head_at shape parts table).empty
      ≡ filter
      (λ block. is_empty (body_at shape parts table block)
      && not (block == (head_at shape parts table).block))
      (below (blocks_of shape table))

-- A body of a table: its columns are the table's, it has as many slots as the table has in a block,
-- and each version of a row fits. Cooling it has a row, and two rounds without a modification.
-- Sealed or imaged it has no entry, its rows are a front of its slots, and its stamp is the last.
pub record BodyHolds (shape : Shape) (table : ℕ) (body : Body) : Type 0 where
  pub columns : body.columns ≡ columns_of (columns_in shape table)
  pub slots : length body.slots ≡ slots_of shape table
  pub versions : All (λ (slot : Slot). VersionsFit (columns_in shape table) slot.row slot.entries)
      body.slots
  pub cooling : body.cooling ≡ true → has_row body ≡ true
  pub rested : body.cooling ≡ true → body.rounds ≡ 2
  pub quiet : is_loose body.phase ≡ false → is_quiet body ≡ true
  pub dense : is_loose body.phase ≡ false → is_dense body ≡ true
  pub sealed : (stamp : ℕ) → body.phase ≡ Sealed stamp → stamp ≡ body.last
  pub imaged : (stamp : ℕ) → body.phase ≡ Imaged stamp → stamp ≡ body.last
  pub rounds : body.rounds ≤ 2
  pub last : body.last < 2 ^ 30

-- A block that is cooling, sealed or imaged is not the head.
pub record IsNoHead (shape : Shape) (parts : Parts) (table block : ℕ) : Type 0 where
  pub cooling : (body_at shape parts table block).cooling ≡ true → block
      ≢ (head_at shape parts table).block
  pub phase : is_loose (body_at shape parts table block).phase ≡ false → block
      ≢ (head_at shape parts table).block

-- The invariant but for the entries of the shards: each part is what its name says, the parts
-- follow a machine, heads and bodies hold, and no head is cooling, sealed or imaged.
pub record Sound (shape : Shape) (parts : Parts) : Type 0 where
  pub follows : (machine : IsolationMachine)
      × Follows (slot_at shape parts) (places_at shape parts) (desk_at shape parts) machine
  pub count : length parts ≡ length (names shape)
  pub kinds : All (λ name. IsOfKind name (part_at shape parts name)) (names shape)
  pub heads : (table : ℕ) → HasTable shape table → HeadHolds shape parts table
  pub bodies : (table block : ℕ) → HasBlock shape table block
      → BodyHolds shape table (body_at shape parts table block)
  pub no_head : (table block : ℕ) → HasBlock shape table block → IsNoHead shape parts table block
  pub sessions : length (desk_at shape parts).open_snapshots ≡ shape.passes

-- There are at most 16 tables, and each has a block, and between 1 and 2 ^ 15 slots in it. What the
-- core begins with are commits of the tables, at most 2 ^ 63, which leave no table more rows than it
-- takes.
pub record IsShape (shape : Shape) : Type 0 where
  pub tables : length shape.tables ≤ 16
  pub blocks : (table : ℕ) → HasTable shape table → 1 ≤ blocks_of shape table
  pub slots : (table : ℕ) → HasTable shape table → (1 ≤ slots_of shape table)
      × (slots_of shape table ≤ 2 ^ 15)
  pub commits : AreCommitsOf shape.tables shape.first
  pub few : length shape.first ≤ 2 ^ 63
  pub room : (table : ℕ) → HasTable shape table
      → length (rows_first shape table) ≤ blocks_of shape table * slots_of shape table
