-- The slots in a hand.
use Rattle.std.specs.Prelude.{ℕ, ◌<◌, List, length}
use Rattle.block_layout.specs.Place.{block_of, slot_of}
use Rattle.core_parts.specs.Hands.{Has, Held, in_hand}
use Rattle.event_spec.specs.Lawful.{Among}
use Rattle.event_spec.specs.Parts.{Shape, BodyOf, body_from}

-- The body of a place is in the hand, and has the place's slot.
pub record HasSlot (shape : Shape) (hand : Held) (table place : ℕ) : Type 0 where
  pub body : Has shape hand (BodyOf table (block_of place))
  pub slot : slot_of place < length
      (body_from (in_hand shape hand (BodyOf table (block_of place)))).slots

abbrev pub HasSlots : Shape → Held → ℕ → List ℕ → Type 0
HasSlots shape hand table places = (place : ℕ) → Among place places → HasSlot shape hand table place
