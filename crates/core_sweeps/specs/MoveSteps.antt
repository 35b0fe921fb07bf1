-- What a move makes of a hand, pair by pair.
use Rattle.std.specs.Prelude.{◌≡◌, ◌≢◌, ◌⊎◌, ℕ, ◌+◌, ◌<◌, Bool, true, not, ◌&&◌, ◌==◌, List, []}
use Rattle.std.specs.Prelude.{Some, is_some, length, take, unwrap_or, fold, if◌then◌else◌}
use Rattle.block_layout.specs.Place.{block_of, slot_of}
use Rattle.block_spec.specs.Bodies.{Body, has_row, is_loose, slot_in, taken_back_in, with_slot}
use Rattle.block_spec.specs.Slots.{Row, has_none, is_bare, moved_in, moved_out}
use Rattle.cell_model.specs.Rows.{Fits}
use Rattle.core_parts.specs.Hands.{Has, Held, MayRun, after, in_hand}
use Rattle.core_sweeps.specs.SweepSteps.{body_changed, body_in}
use Rattle.event_spec.specs.declared.event.Event.TheVariants as event
use Rattle.event_spec.specs.declared.event.MovePair.{MovePair}
use Rattle.event_spec.specs.declared.part.Head.{Head}
use Rattle.event_spec.specs.Effects.{at_both, half_moved, has_key, held_pairs, may_move}
use Rattle.event_spec.specs.Effects.{places_moved, with_place}
use Rattle.event_spec.specs.Parts.{Changes, Parts, Shape, HeadOf, ShardOf, BodyOf, desk_at}
use Rattle.event_spec.specs.Parts.{head_from, names, nothing, shard_from, shard_of}
use Rattle.core_parts.specs.Shards.{without_place}
use Rattle.key_index.specs.Candidates.{Places}

-- ---- how a hand judges a pair

abbrev pub head_in : Shape → Held → ℕ → Head
head_in shape hand table = head_from (in_hand shape hand (HeadOf table))

abbrev pub shard_in : Shape → Held → ℕ → ℕ → Places
shard_in shape hand table shard = shard_from (in_hand shape hand (ShardOf table shard))

abbrev pub may_move_in : Shape → Held → ℕ → ℕ → Bool
may_move_in shape hand table block =
    is_loose (body_in shape hand table block).phase && (body_in shape hand table block).cooling
    && not (block == (head_in shape hand table).block) && has_row (body_in shape hand table block)

abbrev pub holds_in : Shape → Held → ℕ → MovePair → Bool
holds_in shape hand table pair =
    may_move_in shape hand table (block_of pair.source)
    && may_move_in shape hand table (block_of pair.target)
    && has_key pair.key (slot_in (body_in shape hand table (block_of pair.source))
    (slot_of pair.source)).row
    && has_none (slot_in (body_in shape hand table (block_of pair.source))
    (slot_of pair.source)).entries
    && is_bare (slot_in (body_in shape hand table (block_of pair.target)) (slot_of pair.target))

-- ---- one pair

-- a body is as it was before it was modified: cooling, after two rounds
abbrev pub cooled : Body → Body
cooled body = record body { cooling = true; rounds = 2 }

-- the row that a pair moves
abbrev pub row_in : Shape → Held → ℕ → MovePair → Row
row_in shape hand table pair = unwrap_or
    (slot_in (body_in shape hand table (block_of pair.source)) (slot_of pair.source)).row []

-- A row leaves its slot, and comes to another.
abbrev pub left : ℕ → ℕ → Row → ℕ → Changes
left table place row stamp = record nothing
    { body = at_both table (block_of place) (with_slot (slot_of place) (moved_out stamp row)) }

abbrev pub come : ℕ → ℕ → Row → ℕ → Changes
come table place row stamp = record nothing
    { body = at_both table (block_of place) (with_slot (slot_of place) (moved_in stamp row)) }

-- A pair moves: its target is a candidate, and the row leaves the source for it.
abbrev pub pair_moved : ℕ → ℕ → MovePair → Row → Changes
pair_moved table stamp pair row = record nothing {
  shard = at_both table (shard_of pair.key) (with_place pair.key pair.target);
  body = λ other block body.
      at_both table (block_of pair.target) (with_slot (slot_of pair.target) (moved_in stamp row))
      other block
      (at_both table (block_of pair.source) (with_slot (slot_of pair.source) (moved_out stamp row))
      other block body);
}

-- its row alone
abbrev pub rows_moved : ℕ → ℕ → MovePair → Row → Changes
rows_moved table stamp pair row = record (pair_moved table stamp pair row)
    { shard = λ other shard places. places }

-- A pair is taken back.
abbrev pub pair_undone : ℕ → MovePair → Changes
pair_undone table pair = record nothing {
  shard = at_both table (shard_of pair.key) (without_place pair.key pair.target);
  body = λ other block body.
      at_both table (block_of pair.source) (taken_back_in (slot_of pair.source)) other block
      (at_both table (block_of pair.target) (taken_back_in (slot_of pair.target)) other block body);
}

-- The hand has what a pair needs to move: both bodies, which are loose, the row without an entry,
-- and the bare slot, which takes the row.
pub record IsReadyIn (shape : Shape) (hand : Held) (table : ℕ) (pair : MovePair) : Type 0 where
  pub source : Has shape hand (BodyOf table (block_of pair.source))
  pub target : Has shape hand (BodyOf table (block_of pair.target))
  pub room : length hand ≡ length (names shape)
  pub loose : is_loose (body_in shape hand table (block_of pair.source)).phase ≡ true
  pub open' : is_loose (body_in shape hand table (block_of pair.target)).phase ≡ true
  pub inside : slot_of pair.source < length (body_in shape hand table (block_of pair.source)).slots
  pub row : is_some (slot_in (body_in shape hand table (block_of pair.source))
      (slot_of pair.source)).row ≡ true
  pub quiet : has_none (slot_in (body_in shape hand table (block_of pair.source))
      (slot_of pair.source)).entries ≡ true
  pub slot : slot_of pair.target < length (body_in shape hand table (block_of pair.target)).slots
  pub bare' : is_bare (slot_in (body_in shape hand table (block_of pair.target))
      (slot_of pair.target)) ≡ true
  pub fits : (row : Row) → (slot_in (body_in shape hand table (block_of pair.source))
      (slot_of pair.source)).row ≡ Some row
      → Fits (body_in shape hand table (block_of pair.target)).columns row
  pub apart : pair.source ≢ pair.target

-- The hand is as before, or but for a block that is cooled again.
abbrev pub IsNearly : Shape → ℕ → ℕ → Held → Held → Type 0
IsNearly shape table block old new = (new ≡ old)
    ⊎ (new ≡ after shape (body_changed table block cooled) old)

-- ---- so far

-- A move after some of its pairs.
abbrev pub moved_to : Shape → Parts → ℕ → List MovePair → Changes
moved_to shape parts table pairs = record nothing {
  shard = λ other shard places. if other == table
      then fold (places_moved shape parts shard) places pairs else places;
  body = λ other block body.
      if other == table then fold (half_moved shape parts table ((desk_at shape parts).newest + 1)
      block) body pairs else body;
}

-- The same where some blocks are cooled again, since pairs were taken back.
abbrev pub back_to : Shape → Parts → ℕ → List MovePair → (ℕ → Bool) → Changes
back_to shape parts table pairs again = record (moved_to shape parts table pairs) {
  body = λ other block body.
      if (other == table) && again block
      then cooled ((moved_to shape parts table pairs).body other block body)
      else (moved_to shape parts table pairs).body other block body;
}

-- The hand after so many of the pairs that hold moved.
pub record AreMoved (shape : Shape) (table : ℕ) (moves : List MovePair) (old now : Held)
    (pairs : List MovePair) (done : ℕ) : Type 0 where
  pub may : MayRun shape (event.Move table moves) old
  pub hold : pairs ≡ held_pairs shape may.parts table moves
  pub made : now ≡ after shape (moved_to shape may.parts table (take done pairs)) old

-- The hand after all but so many of the pairs that moved were taken back.
pub record AreBack (shape : Shape) (table : ℕ) (moves : List MovePair) (old now : Held)
    (pairs : List MovePair) (done : ℕ) : Type 0 where
  pub may : MayRun shape (event.Move table moves) old
  pub hold : pairs ≡ held_pairs shape may.parts table moves
  pub again : ℕ → Bool
  pub only : (block : ℕ) → again block ≡ true → may_move shape may.parts table block ≡ true
  pub made : now ≡ after shape (back_to shape may.parts table (take done pairs) again) old
