-- The parts that a transaction wrote, at spots: numbers in whose order the parts lie.
use Rattle.std.specs.Prelude.{◌≡◌, ℕ, ◌/◌, ◌%◌, ◌^◌, ◌<◌, ◌≤◌, List, [], Option, None, Some, map}
use Rattle.std.specs.Prelude.{length, slice_get, slice_index}
use Rattle.std.specs.List.Sorted.{IsPermutation}
use Rattle.block_layout.specs.Place.{block_of}
use Rattle.core_parts.specs.declared.written.PartKind.{PartKind}
use Rattle.core_parts.specs.declared.written.PartKind.TheVariants as kinds
use Rattle.event_spec.specs.declared.event.Event.TheVariants as event
use Rattle.event_spec.specs.Effects.{CoreEvent}
use Rattle.event_spec.specs.Parts.{Name, ShardOf, BodyOf, Shape, blocks_of, names, shard_of}
use Rattle.isolation_spec.specs.Contents.{PlaceMap}
use Rattle.isolation_spec.specs.declared.place.Place.{Place}

-- a table's part of a kind, by its index in the table
abbrev pub name_of : PartKind → ℕ → ℕ → Name
name_of kinds.Shard table index = ShardOf table index
name_of kinds.Body table index = BodyOf table index

-- how many parts of a kind a table has
abbrev pub count_of : Shape → PartKind → ℕ → ℕ
count_of shape kinds.Shard table = 8
count_of shape kinds.Body table = blocks_of shape table

-- the part of a kind at a spot: each table takes 2 ^ 32 spots
abbrev pub name_on : PartKind → ℕ → Name
name_on kind spot = name_of kind (spot / 2 ^ 32) (spot % 2 ^ 32)

-- the part of a kind that a written row is in
abbrev pub name_written : PartKind → Place × ℕ → Name
name_written kinds.Shard write = ShardOf write.0.table (shard_of write.0.key)
name_written kinds.Body write = BodyOf write.0.table (block_of write.1)

abbrev pub names_written : PartKind → PlaceMap ℕ → List Name
names_written kind writes = map (name_written kind) writes

-- The spots are those of the parts that the written rows are in, in whatever order.
abbrev pub AreWritten : PartKind → PlaceMap ℕ → List ℕ → Type 0
AreWritten kind writes spots = IsPermutation (names_written kind writes) (map (name_on kind) spots)

-- the rows that a transaction wrote, where the event ends it
abbrev pub ended : CoreEvent → PlaceMap ℕ
ended (event.Commit own reads) = own.writes
ended (event.Abort own) = own.writes
ended _ = []

module _ (kind : PartKind) (shape : Shape) (from : ℕ) where
  -- Parts at spots before this one have numbers below `from`, and the others have not.
  abbrev pub IsFirstSpot : ℕ → Type 0
  IsFirstSpot first = (spot number : ℕ) → slice_get (names shape) number ≡ Some (name_on kind spot)
      → (spot < first → number < from) × (first ≤ spot → from ≤ number)

  -- The least number from `from` on of the parts at the spots.
  abbrev pub IsLeastOn : List ℕ → Option ℕ → Type 0
  IsLeastOn spots None = (k number : ℕ) → k < length spots
      → slice_get (names shape) number ≡ Some (name_on kind (slice_index spots k)) → number < from
  IsLeastOn spots (Some least) = (from ≤ least)
      × ((k : ℕ) × (k < length spots)
      × (slice_get (names shape) least ≡ Some (name_on kind (slice_index spots k))))
      × ((k number : ℕ) → k < length spots
      → slice_get (names shape) number ≡ Some (name_on kind (slice_index spots k))
      → from ≤ number → least ≤ number)
