-- The names of the parts that an event touches, as a list.
use Rattle.std.specs.Prelude.{ℕ, ℤ, List, [], ◌∷◌, ◌++◌, Option, None, Some, map, option_to_list}
use Rattle.std.specs.List.{flat_map}
use Rattle.std.specs.Option.{option_or}
use Rattle.block_layout.specs.Place.{block_of}
use Rattle.event_spec.specs.declared.event.Event.TheVariants as event
use Rattle.event_spec.specs.declared.event.MovePair.{MovePair}
use Rattle.event_spec.specs.Effects.{CoreEvent}
use Rattle.event_spec.specs.Newest.{judged_reads}
use Rattle.event_spec.specs.Parts.{CorePart, Name, HeadOf, ShardOf, BodyOf, TheDesk, Shape, below}
use Rattle.event_spec.specs.Parts.{shard_of, tables_of}
use Rattle.event_spec.specs.Touched.{held_keys, held_next, held_places}
use Rattle.isolation_spec.specs.Contents.{PlaceMap, at_place, key_of, place_at}
use Rattle.isolation_spec.specs.declared.place.Place.{Place}
use Rattle.isolation_spec.specs.declared.read.KeyRange.{KeyRange}
use Rattle.isolation_spec.specs.Reads.{ReadSet}

-- the bodies of places of a table
abbrev pub bodies_at : ℕ → List ℕ → List Name
bodies_at table places = map (λ place. BodyOf table (block_of place)) places

-- the bodies, and the shards, of the rows that a transaction wrote
abbrev pub bodies_written : PlaceMap ℕ → List Name
bodies_written writes = map (λ write. BodyOf write.0.table (block_of write.1)) writes

abbrev pub shards_written : PlaceMap ℕ → List Name
shards_written writes = map (λ write. ShardOf write.0.table (shard_of write.0.key)) writes

-- those of the pairs of a move
abbrev pub shards_moved : ℕ → List MovePair → List Name
shards_moved table pairs = map (λ (pair : MovePair). ShardOf table (shard_of pair.key)) pairs

abbrev pub sources_moved : ℕ → List MovePair → List Name
sources_moved table pairs = map (λ (pair : MovePair). BodyOf table (block_of pair.source)) pairs

abbrev pub targets_moved : ℕ → List MovePair → List Name
targets_moved table pairs = map (λ (pair : MovePair). BodyOf table (block_of pair.target)) pairs

abbrev pub shards_in : ℕ → List Name
shards_in table = map (ShardOf table) (below 8)

module _ (shape : Shape) (held : Name → Option CorePart) where
  -- of an event on a key: its shard, the body of the place that the event goes to, and those of its
  -- candidates
  abbrev pub names_on_key : ℕ → ℤ → Option ℕ → List Name
  names_on_key table key place =
      ShardOf table (shard_of key) ∷ [] ++ bodies_at table (option_to_list place)
      ++ bodies_at table (held_places shape held table key)

  -- of a key that was got: its shard, and the bodies of its candidates
  abbrev pub names_got : Place → List Name
  names_got place = names_on_key place.table place.key None

  -- where a key's row may be found: the body of the slot of its own write, if a transaction wrote
  -- it, and those of its candidates
  abbrev pub bodies_on : PlaceMap ℕ → ℕ → ℤ → List Name
  bodies_on writes table key =
      bodies_at table (option_to_list (at_place writes (place_at table key)))
      ++ bodies_at table (held_places shape held table key)

  -- of a range: the table's shards, and the bodies where the rows of its keys may be found
  abbrev pub names_ranged : PlaceMap ℕ → KeyRange → List Name
  names_ranged writes range =
      shards_in range.table
      ++ flat_map (bodies_on writes range.table)
      (held_keys shape held range.table range.low range.high)

  -- of the reads by which a commit is judged
  abbrev pub names_read : Option ReadSet → List Name
  names_read None = []
  names_read (Some reads) = flat_map names_got reads.places
      ++ flat_map (names_ranged []) reads.ranges

  abbrev pub touched_names : CoreEvent → List Name
  touched_names (event.Begin session) = TheDesk ∷ []
  touched_names (event.Get own table key) = names_on_key table key own.written
  touched_names (event.Insert own table row) =
      HeadOf table ∷ [] ++ names_on_key table (key_of row)
      (option_or own.written (held_next shape held table))
  touched_names (event.Update own table row) = names_on_key table (key_of row) own.written
  touched_names (event.Delete own table key) = names_on_key table key own.written
  touched_names (event.Read own table block) = BodyOf table block ∷ []
  touched_names (event.Range own table low high) =
      names_ranged own.writes (record { table = table; low = low; high = high })
  touched_names (event.Commit own reads) =
      bodies_written own.writes ++ names_read (judged_reads own.writes reads) ++ TheDesk ∷ []
  touched_names (event.Abort own) =
      map HeadOf (tables_of shape) ++ shards_written own.writes ++ bodies_written own.writes
      ++ TheDesk ∷ []
  touched_names event.Oldest = TheDesk ∷ []
  touched_names (event.Observe table block) = HeadOf table ∷ BodyOf table block ∷ []
  touched_names (event.Prune table block oldest) = HeadOf table ∷ BodyOf table block ∷ []
      ++ shards_in table
  touched_names (event.Look table block) = BodyOf table block ∷ []
  touched_names (event.Move table moves) =
      HeadOf table ∷ [] ++ shards_moved table moves ++ sources_moved table moves
      ++ targets_moved table moves ++ TheDesk ∷ []
  touched_names (event.Seal table block) = HeadOf table ∷ BodyOf table block ∷ []
  touched_names (event.Image table block image) = BodyOf table block ∷ []
  touched_names (event.Thaw table block) = BodyOf table block ∷ []
