-- What a commit looks at in a hand, and what it finds.
use Rattle.std.specs.Prelude.{ℕ, Option, None, Some, max}
use Rattle.core_events.specs.Candidates.{candidates_in}
use Rattle.core_events.specs.Slots.{HasSlots}
use Rattle.core_parts.specs.Hands.{Has, Held}
use Rattle.event_spec.specs.Effects.{range_keys}
use Rattle.event_spec.specs.Newest.{newest_of}
use Rattle.event_spec.specs.Parts.{Parts, Shape, ShardOf, desk_at, places_at, shard_of, slot_at}
use Rattle.isolation_spec.specs.declared.place.Place.{Place}
use Rattle.isolation_spec.specs.declared.read.KeyRange.{KeyRange}
use Rattle.isolation_spec.specs.declared.read.Read.{Read}
use Rattle.isolation_spec.specs.declared.read.Read.TheVariants as read
use Rattle.txn_desk.specs.declared.Snapshot.{Snapshot}
use Rattle.txn_desk.specs.Desk.{wrote_table}

-- The shard of a key that was got and the slots of its candidates are in the hand.
pub record HasGot (shape : Shape) (hand : Held) (place : Place) : Type 0 where
  pub shard : Has shape hand (ShardOf place.table (shard_of place.key))
  pub slots : HasSlots shape hand place.table (candidates_in shape hand place.table place.key)

-- the larger of two numbers, each of which may be none
abbrev pub larger : Option ℕ → Option ℕ → Option ℕ
larger None other = other
larger (Some number) None = Some number
larger (Some number) (Some other) = Some (max number other)

-- the read of a key that was got
abbrev pub key_read : Place → Read
key_read place = read.Key place.table place.key

-- the read of a range
abbrev pub range_read : KeyRange → Read
range_read range = read.Range range.table range.low range.high

-- the last commit above a snapshot that wrote into a read, by the parts
abbrev pub newest_at : Shape → Parts → Snapshot → Read → Option ℕ
newest_at shape parts snapshot what = newest_of
    (slot_at shape parts)
    (places_at shape parts)
    (range_keys shape parts)
    (wrote_table (desk_at shape parts))
    snapshot
    what
