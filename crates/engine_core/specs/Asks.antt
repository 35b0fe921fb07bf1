-- What a call asks of the parts in its hand before an event.
use Rattle.std.specs.Prelude.{ℕ, ℤ, List, [], ◌∷◌, Option, None, Some, option_and_then}
use Rattle.std.specs.Prelude.{if◌then◌else◌}
use Rattle.block_layout.specs.Place.{block_of}
use Rattle.block_spec.specs.Bodies.{is_imaged}
use Rattle.core_parts.specs.Hands.{Has, Held}
use Rattle.event_spec.specs.Judged.{current_place}
use Rattle.event_spec.specs.Lawful.{Among}
use Rattle.event_spec.specs.Parts.{Parts, Shape, ShardOf, BodyOf, body_at, places_at, shard_of}
use Rattle.event_spec.specs.Parts.{slot_at}
use Rattle.core_laws.specs.Frames.Shards.{CoreHolds}
use Rattle.hall_rule.specs.Hands.{Agrees}
use Rattle.core_events.specs.Candidates.{candidates_in}

-- The parts in a hand are those of a core that holds.
pub record IsOfCore (shape : Shape) (hand : Held) : Type 0 where
  pub parts : Parts
  pub holds : CoreHolds shape parts
  pub agrees : Agrees hand parts

-- The hand has what tells where a key's row lies: the key's shard, and the bodies of its
-- candidates.
pub record HasKeyParts (shape : Shape) (hand : Held) (table : ℕ) (key : ℤ) : Type 0 where
  pub shard : Has shape hand (ShardOf table (shard_of key))
  pub bodies : (place : ℕ) → Among place (candidates_in shape hand table key)
      → Has shape hand (BodyOf table (block_of place))

-- the newest of a key's candidates alone, if there is one
abbrev pub newest_of : List ℕ → List ℕ
newest_of [] = []
newest_of (place ∷ []) = place ∷ []
newest_of (place ∷ later ∷ places) = newest_of (later ∷ places)

-- the imaged block that a write of a key would change: that of the key's current row
abbrev pub imaged_block : Shape → Parts → ℕ → ℤ → Option ℕ
imaged_block shape parts table key = option_and_then
    (λ place. if is_imaged (body_at shape parts table (block_of place)).phase
    then Some (block_of place) else None)
    (current_place (slot_at shape parts table) (places_at shape parts table key))
