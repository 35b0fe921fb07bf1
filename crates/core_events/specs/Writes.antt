-- What a write asks of a hand, and what it makes of one part.
use Rattle.std.specs.Prelude.{◌≡◌, ℕ, ◌<◌, true, None, is_some, length}
use Rattle.block_body.specs.Bodies.{wants_row}
use Rattle.block_layout.specs.Place.{block_of, slot_of}
use Rattle.block_spec.specs.Bodies.{Body, is_loose, slot_in}
use Rattle.block_spec.specs.declared.change.Change.{Change}
use Rattle.block_spec.specs.Fitting.{ChangeFits}
use Rattle.core_parts.specs.Hands.{Has, Held, in_hand}
use Rattle.event_spec.specs.declared.part.Head.{Head}
use Rattle.event_spec.specs.Effects.{at_both, at_table}
use Rattle.event_spec.specs.Parts.{BodyOf, Changes, Shape, body_from, nothing}
use Rattle.key_index.specs.Candidates.{Places}
use Rattle.undo_chain.specs.Conflict.{other_writer}

-- A body takes a session's change of a slot.
pub record TakesChange (body : Body) (at session : ℕ) (change : Change) : Type 0 where
  pub loose : is_loose body.phase ≡ true
  pub slot : at < length body.slots
  pub free : other_writer (slot_in body at).entries session ≡ None
  pub row : is_some (slot_in body at).row ≡ wants_row change
  pub fits : ChangeFits body.columns change

-- The body of a place is in the hand, and takes the change.
pub record TakesAt (shape : Shape) (hand : Held) (table place session : ℕ)
    (change : Change) : Type 0 where
  pub body : Has shape hand (BodyOf table (block_of place))
  pub takes : TakesChange (body_from (in_hand shape hand (BodyOf table (block_of place))))
      (slot_of place) session change

-- a change of one part alone
abbrev pub of_head : ℕ → (Head → Head) → Changes
of_head table change = record nothing { head = at_table table change }

abbrev pub of_shard : ℕ → ℕ → (Places → Places) → Changes
of_shard table shard change = record nothing { shard = at_both table shard change }

abbrev pub of_body : ℕ → ℕ → (Body → Body) → Changes
of_body table block change = record nothing { body = at_both table block change }
