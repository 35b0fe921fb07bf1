-- Which parts an event touches, as the parts held before tell.
use Rattle.std.specs.Prelude.{ℕ, ℤ, Bool, true, false, ◌&&◌, ◌||◌, ◌==◌, List, [], ◌∷◌, ◌++◌}
use Rattle.std.specs.Prelude.{Option, None, Some, option_to_list, slice_get}
use Rattle.std.specs.List.{flat_map, list_any}
use Rattle.std.specs.Option.{option_or}
use Rattle.block_layout.specs.Place.{block_of}
use Rattle.event_spec.specs.declared.event.Event.TheVariants as event
use Rattle.event_spec.specs.declared.event.MovePair.{MovePair}
use Rattle.event_spec.specs.declared.own.OwnTransaction.{OwnTransaction}
use Rattle.event_spec.specs.Parts.{CorePart, Shape, Name, HeadOf, ShardOf, BodyOf, TheDesk}
use Rattle.event_spec.specs.Parts.{same_name, names, held_named, head_from, shard_from, slots_of}
use Rattle.event_spec.specs.Parts.{shard_of, below}
use Rattle.event_spec.specs.Judged.{next_place}
use Rattle.event_spec.specs.Newest.{keys_within, judged_reads}
use Rattle.event_spec.specs.Effects.{CoreEvent}
use Rattle.isolation_spec.specs.Contents.{PlaceMap, at_place, place_at, key_of}
use Rattle.isolation_spec.specs.Reads.{ReadSet}
use Rattle.isolation_spec.specs.declared.place.Place.{Place}
use Rattle.isolation_spec.specs.declared.read.KeyRange.{KeyRange}
use Rattle.key_index.specs.Candidates.{candidates_of}

-- the body of one of these places of a table
abbrev pub is_body_of : ℕ → List ℕ → Name → Bool
is_body_of table places (BodyOf other block) = (table == other)
    && list_any (λ place. block_of place == block) places
is_body_of table places _ = false

-- a body that the transaction wrote
abbrev pub is_body_written : PlaceMap ℕ → Name → Bool
is_body_written writes (BodyOf table block) =
    list_any (λ write. (write.0.table == table) && (block_of write.1 == block)) writes
is_body_written writes _ = false

-- the shard of a key that the transaction wrote
abbrev pub is_shard_written : PlaceMap ℕ → Name → Bool
is_shard_written writes (ShardOf table shard) =
    list_any (λ write. (write.0.table == table) && (shard_of write.0.key == shard)) writes
is_shard_written writes _ = false

abbrev pub is_any_head : Name → Bool
is_any_head (HeadOf table) = true
is_any_head _ = false

abbrev pub is_shard_in : ℕ → Name → Bool
is_shard_in table (ShardOf other shard) = table == other
is_shard_in table _ = false

-- the shard of a pair's key
abbrev pub is_shard_moved : ℕ → List MovePair → Name → Bool
is_shard_moved table pairs (ShardOf other shard) = (table == other)
    && list_any (λ pair. shard_of pair.key == shard) pairs
is_shard_moved table pairs _ = false

-- the bodies of a pair's two places
abbrev pub is_body_moved : ℕ → List MovePair → Name → Bool
is_body_moved table pairs name = list_any
    (λ pair. is_body_of table (pair.source ∷ pair.target ∷ []) name) pairs

-- An event on a key touches the key's shard and the bodies of some places.
abbrev pub touched_by_key : ℕ → ℤ → List ℕ → Name → Bool
touched_by_key table key places name = same_name (ShardOf table (shard_of key)) name
    || is_body_of table places name

-- An insert touches besides the head and the body of its slot: that of the own write, else the
-- head's next.
abbrev pub touched_by_insert : ℕ → ℤ → Option ℕ → List ℕ → Name → Bool
touched_by_insert table key taken places name =
    same_name (HeadOf table) name || touched_by_key table key (option_to_list taken ++ places) name

-- An event on a block touches its body, and where it asks for it the head.
abbrev pub touched_by_block : ℕ → ℕ → Name → Bool
touched_by_block table block name = same_name (BodyOf table block) name

abbrev pub touched_with_head : ℕ → ℕ → Name → Bool
touched_with_head table block name = same_name (HeadOf table) name
    || touched_by_block table block name

-- `held` gives the parts held, by name
module _ (shape : Shape) (held : Name → Option CorePart) where
  abbrev pub held_places : ℕ → ℤ → List ℕ
  held_places table key = candidates_of (shard_from (held (ShardOf table (shard_of key)))) key

  abbrev pub held_next : ℕ → Option ℕ
  held_next table = next_place (head_from (held (HeadOf table))) (slots_of shape table)

  abbrev pub held_keys : ℕ → ℤ → ℤ → List ℤ
  held_keys table low high = flat_map
      (λ shard. keys_within low high (shard_from (held (ShardOf table shard))))
      (below 8)

  -- where a transaction may find a key's row: on the slot of its own write of it, and at the
  -- candidates
  abbrev pub seen_places : OwnTransaction → ℕ → ℤ → List ℕ
  seen_places own table key = option_to_list (at_place own.writes (place_at table key))
      ++ held_places table key

  -- a key that was got: its shard and the bodies of its candidates
  abbrev pub touched_by_got : Place → Name → Bool
  touched_by_got place name =
      touched_by_key place.table place.key (held_places place.table place.key) name

  -- a range: all shards of its table and the bodies of its keys' candidates
  abbrev pub touched_by_range : KeyRange → Name → Bool
  touched_by_range range name =
      is_shard_in range.table name
      || list_any (λ key. is_body_of range.table (held_places range.table key) name)
      (held_keys range.table range.low range.high)

  -- What a commit reads. The desk tells of the tables that were read as a whole.
  abbrev pub touched_by_reads : Option ReadSet → Name → Bool
  touched_by_reads None name = false
  touched_by_reads (Some reads) name =
      list_any (λ place. touched_by_got place name) reads.places
      || list_any (λ range. touched_by_range range name) reads.ranges

  abbrev pub touched : CoreEvent → Name → Bool
  touched (event.Begin session) name = same_name TheDesk name
  touched (event.Get own table key) name =
      touched_by_key table key (option_to_list own.written ++ held_places table key) name
  touched (event.Insert own table row) name = touched_by_insert
      table
      (key_of row)
      (option_or own.written (held_next table))
      (held_places table (key_of row))
      name
  touched (event.Update own table row) name =
      touched_by_key table (key_of row)
      (option_to_list own.written ++ held_places table (key_of row)) name
  touched (event.Delete own table key) name =
      touched_by_key table key (option_to_list own.written ++ held_places table key) name
  touched (event.Read own table block) name = touched_by_block table block name
  touched (event.Range own table low high) name =
      is_shard_in table name
      || list_any (λ key. is_body_of table (seen_places own table key) name)
      (held_keys table low high)
  touched (event.Commit own reads) name =
      is_body_written own.writes name || touched_by_reads (judged_reads own.writes reads) name
      || same_name TheDesk name
  touched (event.Abort own) name =
      is_any_head name || is_shard_written own.writes name || is_body_written own.writes name
      || same_name TheDesk name
  touched event.Oldest name = same_name TheDesk name
  touched (event.Observe table block) name = touched_with_head table block name
  touched (event.Prune table block oldest) name = touched_with_head table block name
      || is_shard_in table name
  touched (event.Look table block) name = touched_by_block table block name
  touched (event.Move table moves) name =
      same_name (HeadOf table) name || is_shard_moved table moves name
      || is_body_moved table moves name
      || same_name TheDesk name
  touched (event.Seal table block) name = touched_with_head table block name
  touched (event.Image table block image) name = touched_by_block table block name
  touched (event.Thaw table block) name = touched_by_block table block name

-- a test of names, asked of a part's number
abbrev pub passes_test : (Name → Bool) → Option Name → Bool
passes_test test None = false
passes_test test (Some name) = test name

-- Whether an event touches the part of a number, as the parts in a hand tell.
abbrev pub touching : Shape → CoreEvent → List (Option CorePart) → ℕ → Bool
touching shape event hand number =
    passes_test (touched shape (held_named (names shape) hand) event)
    (slice_get (names shape) number)
