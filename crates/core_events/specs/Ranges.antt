-- What a range looks at in a hand.
use Rattle.std.specs.Prelude.{ℕ, ◌<◌, ◌≤◌, ℤ, List, IfSome, length}
use Rattle.std.specs.List.{flat_map}
use Rattle.core_events.specs.Candidates.{candidates_in}
use Rattle.core_events.specs.Slots.{HasSlot}
use Rattle.core_events.specs.Stale.{HasGot}
use Rattle.core_parts.specs.Hands.{Has, Held, in_hand}
use Rattle.event_spec.specs.declared.own.OwnTransaction.{OwnTransaction}
use Rattle.event_spec.specs.Lawful.{Among}
use Rattle.event_spec.specs.Newest.{keys_within}
use Rattle.event_spec.specs.Parts.{Shape, ShardOf, below, shard_from}
use Rattle.isolation_spec.specs.Contents.{at_place, place_at}
use Rattle.isolation_spec.specs.declared.read.KeyRange.{KeyRange}

-- the keys of a range that a shard in the hand has, and those that all of the table's have
abbrev pub keys_in : Shape → Held → KeyRange → ℕ → List ℤ
keys_in shape hand range shard = keys_within range.low range.high
    (shard_from (in_hand shape hand (ShardOf range.table shard)))

abbrev pub range_in : Shape → Held → KeyRange → List ℤ
range_in shape hand range = flat_map (keys_in shape hand range) (below 8)

-- All shards of a range's table are in the hand, and of each of its keys the slots of the
-- candidates.
pub record HasRange (shape : Shape) (hand : Held) (range : KeyRange) : Type 0 where
  pub shards : (shard : ℕ) → shard < 8 → Has shape hand (ShardOf range.table shard)
  pub got : (key : ℤ) → Among key (range_in shape hand range) → HasGot shape hand
      (place_at range.table key)

-- A key has a candidate; the slots of its candidates are in the hand, and that of a transaction's
-- write of it.
pub record HasRow (shape : Shape) (hand : Held) (own : OwnTransaction) (table : ℕ) (key : ℤ) : Type 0 where
  pub some : 1 ≤ length (candidates_in shape hand table key)
  pub got : HasGot shape hand (place_at table key)
  pub written : IfSome (at_place own.writes (place_at table key)) (HasSlot shape hand table)
