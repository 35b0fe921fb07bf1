-- A core's parts by name: of which kind each is, and that what they hold follows the
-- snapshot-isolation machine.
use Rattle.std.specs.Prelude.{◌≡◌, ℕ, ◌<◌, length, true, Option, None, Some}
use Rattle.block_layout.specs.Place.{block_of, slot_of}
use Rattle.block_spec.specs.Bodies.{Body}
use Rattle.block_spec.specs.Slots.{is_bare}
use Rattle.event_spec.specs.declared.part.Part.TheVariants as part
use Rattle.event_spec.specs.Follows.{Follows}
use Rattle.event_spec.specs.Judged.{next_place}
use Rattle.event_spec.specs.Lawful.{HasTable}
use Rattle.event_spec.specs.Parts.{CorePart, Parts, Shape, Name, HeadOf, ShardOf, BodyOf, TheDesk}
use Rattle.event_spec.specs.Parts.{part_at, shard_from, head_at, desk_at, slot_at, places_at}
use Rattle.event_spec.specs.Parts.{slots_of}
use Rattle.isolation_spec.specs.Machine.{IsolationMachine}
use Rattle.key_index.specs.Candidates.{Places}
use Rattle.txn_desk.specs.Desk.{DeskState}

-- a table's shard of candidates
abbrev pub shard_at : Shape → Parts → ℕ → ℕ → Places
shard_at shape parts table shard = shard_from (part_at shape parts (ShardOf table shard))

-- Where a name has a part, it is one of the name's kind.
abbrev pub KindIf : Name → Option CorePart → Type 0
KindIf name None = Unit {0}
KindIf (HeadOf table) (Some (part.Head head)) = Unit {0}
KindIf (ShardOf table shard) (Some (part.Shard places)) = Unit {0}
KindIf (BodyOf table block) (Some (part.Body body)) = Unit {0}
KindIf TheDesk (Some (part.Desk desk)) = Unit {0}
KindIf _ (Some _) = ⊥

-- Each part is what its name says, the desk and all shards are there, and what they hold follows
-- the machine.
pub record FollowsMachine (shape : Shape) (parts : Parts) (machine : IsolationMachine) : Type 0 where
  pub kinds : (name : Name) → KindIf name (part_at shape parts name)
  pub desk : (desk : DeskState) × (part_at shape parts TheDesk ≡ Some (part.Desk desk))
  pub shards : (table shard : ℕ) → HasTable shape table → shard < 8
      → (places : Places) × (part_at shape parts (ShardOf table shard) ≡ Some (part.Shard places))
  pub follows : Follows (slot_at shape parts) (places_at shape parts) (desk_at shape parts) machine

-- The slot that the next insert of a table takes is there and bare.
abbrev pub NextIsFree : Shape → Parts → ℕ → Type 0
NextIsFree shape parts table = (place : ℕ)
    → next_place (head_at shape parts table) (slots_of shape table) ≡ Some place
    → (body : Body) × (part_at shape parts (BodyOf table (block_of place)) ≡ Some (part.Body body))
    × (slot_of place < length body.slots) × (is_bare (slot_at shape parts table place) ≡ true)
