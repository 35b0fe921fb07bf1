-- The core's state: a list of parts, in the order in which their latches are taken.
use Rattle.std.specs.Prelude.{ℕ, ◌%◌, ◌-◌, ℤ, pos, negsuc, Bool, true, false, ◌&&◌, ◌==◌, List, []}
use Rattle.std.specs.Prelude.{◌∷◌, ◌++◌, Option, None, Some, option_map, map, unwrap_or, slice_get}
use Rattle.std.specs.Prelude.{length, if◌then◌else◌}
use Rattle.std.specs.List.{flat_map, range_with_len}
use Rattle.std.specs.FinMap as finite
use Rattle.block_layout.specs.Place.{block_of, slot_of}
use Rattle.block_spec.specs.Bodies.{Body, untouched, slot_in}
use Rattle.block_spec.specs.Slots.{Slot}
use Rattle.cell_model.specs.declared.table.TableDecl.{TableDecl}
use Rattle.event_spec.specs.declared.part.Head.{Head}
use Rattle.event_spec.specs.declared.part.Part.{Part}
use Rattle.event_spec.specs.declared.part.Part.TheVariants as part
use Rattle.isolation_spec.specs.Contents.{History}
use Rattle.key_index.specs.Candidates.{Places, candidates_of}
use Rattle.txn_desk.specs.Desk.{DeskState}

-- A part of the core, and its state.
abbrev pub CorePart : Type 0
CorePart = Part Head Places Body DeskState

abbrev pub Parts : Type 0
Parts = List CorePart

-- What the core was made of, which numbers the parts: the tables, the number of its passes, and the
-- commits that it begins with. No event changes it.
pub record Shape : Type 0 where
  pub tables : List TableDecl
  pub passes : ℕ
  pub first : History

-- What each part is: a table's head, one of its eight index shards, one of its blocks' bodies, or
-- the desk.
pub data Name : Type 0 where
  HeadOf : ℕ → Name
  ShardOf : ℕ → ℕ → Name
  BodyOf : ℕ → ℕ → Name
  TheDesk : Name

abbrev pub same_name : Name → Name → Bool
same_name (HeadOf table) (HeadOf other) = table == other
same_name (HeadOf table) _ = false
same_name (ShardOf table shard) (ShardOf other another) = (table == other) && (shard == another)
same_name (ShardOf table shard) _ = false
same_name (BodyOf table block) (BodyOf other another) = (table == other) && (block == another)
same_name (BodyOf table block) _ = false
same_name TheDesk TheDesk = true
same_name TheDesk _ = false

-- how many blocks a table has, how many slots a block of it has, and its columns
abbrev pub blocks_of : Shape → ℕ → ℕ
blocks_of shape table = unwrap_or (option_map (λ decl. decl.blocks) (slice_get shape.tables table))
    0

abbrev pub slots_of : Shape → ℕ → ℕ
slots_of shape table = unwrap_or (option_map (λ decl. decl.slots) (slice_get shape.tables table)) 0

-- the numbers below n
abbrev pub below : ℕ → List ℕ
below n = range_with_len 0 n

abbrev pub tables_of : Shape → List ℕ
tables_of shape = below (length shape.tables)

-- The parts in the order in which latches are taken: the heads, for each table its shards, for each
-- table its bodies, and the desk.
abbrev pub names : Shape → List Name
names shape =
    map HeadOf (tables_of shape)
    ++ flat_map (λ table. map (ShardOf table) (below 8)) (tables_of shape)
    ++ flat_map (λ table. map (BodyOf table) (below (blocks_of shape table))) (tables_of shape)
    ++ TheDesk ∷ []

-- a key's shard: its lowest three bits
abbrev pub shard_of : ℤ → ℕ
shard_of (pos n) = n % 8
shard_of (negsuc n) = 7 - n % 8

-- the part of a name, where the parts stand in the order of these names
abbrev pub part_named : List Name → Parts → Name → Option CorePart
part_named [] parts name = None
part_named (n ∷ ns) [] name = None
part_named (n ∷ ns) (first ∷ parts) name = if same_name n name then Some first
    else part_named ns parts name

-- the same of a hand, whose places may be empty
abbrev pub held_named : List Name → List (Option CorePart) → Name → Option CorePart
held_named [] hand name = None
held_named (n ∷ ns) [] name = None
held_named (n ∷ ns) (place ∷ hand) name = if same_name n name then place
    else held_named ns hand name

-- what a part holds; where it is none of the kind, as much as a table without blocks has
abbrev pub head_from : Option CorePart → Head
head_from (Some (part.Head head)) = head
head_from _ = record { block = 0; taken = 0; inserts = 0; empty = [] }

abbrev pub shard_from : Option CorePart → Places
shard_from (Some (part.Shard places)) = places
shard_from _ = finite.empty

abbrev pub body_from : Option CorePart → Body
body_from (Some (part.Body body)) = body
body_from _ = untouched [] 0

abbrev pub desk_from : Option CorePart → DeskState
desk_from (Some (part.Desk desk)) = desk
desk_from _ = record { newest = 0; commits = 0; open_snapshots = []; wrote = [] }

module _ (shape : Shape) (parts : Parts) where
  abbrev pub part_at : Name → Option CorePart
  part_at name = part_named (names shape) parts name

  abbrev pub head_at : ℕ → Head
  head_at table = head_from (part_at (HeadOf table))

  abbrev pub body_at : ℕ → ℕ → Body
  body_at table block = body_from (part_at (BodyOf table block))

  abbrev pub desk_at : DeskState
  desk_at = desk_from (part_at TheDesk)

  -- a slot by its place
  abbrev pub slot_at : ℕ → ℕ → Slot
  slot_at table place = slot_in (body_at table (block_of place)) (slot_of place)

  -- the candidates of a key: the places where a version of a row with the key may lie
  abbrev pub places_at : ℕ → ℤ → List ℕ
  places_at table key = candidates_of (shard_from (part_at (ShardOf table (shard_of key)))) key

  abbrev pub is_head : ℕ → ℕ → Bool
  is_head table block = block == (head_at table).block

-- What an event makes of each kind of part.
pub record Changes : Type 0 where
  pub head : ℕ → Head → Head
  pub shard : ℕ → ℕ → Places → Places
  pub body : ℕ → ℕ → Body → Body
  pub desk : DeskState → DeskState

abbrev pub nothing : Changes
nothing = record {
  head = λ table head. head;
  shard = λ table shard places. places;
  body = λ table block body. body;
  desk = λ desk. desk;
}

abbrev pub changed : Changes → Name → CorePart → CorePart
changed changes (HeadOf table) (part.Head head) = part.Head (changes.head table head)
changed changes (ShardOf table shard) (part.Shard places) = part.Shard
    (changes.shard table shard places)
changed changes (BodyOf table block) (part.Body body) = part.Body (changes.body table block body)
changed changes TheDesk (part.Desk desk) = part.Desk (changes.desk desk)
changed changes _ other = other

-- the parts, each changed by its name
abbrev pub each_changed : Changes → List Name → Parts → Parts
each_changed changes [] parts = parts
each_changed changes (n ∷ ns) [] = []
each_changed changes (n ∷ ns) (first ∷ parts) = changed changes n first ∷ each_changed changes ns
    parts
