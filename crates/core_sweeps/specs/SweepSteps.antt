-- What an abort and a pruning make of a hand, step by step.
use Rattle.std.specs.Prelude.{◌≡◌, ℕ, ℤ, Bool, not, ◌&&◌, ◌==◌, Option, None, Some, nat_lt}
use Rattle.std.specs.Prelude.{if◌then◌else◌}
use Rattle.std.specs.List.{list_any}
use Rattle.block_body.specs.Changes.{IsNextVersioned}
use Rattle.block_layout.specs.Place.{block_of, place_of, slot_of}
use Rattle.block_spec.specs.Bodies.{Body, is_empty, pruned_in, rolled_back_in, slot_in}
use Rattle.block_spec.specs.Slots.{is_bare}
use Rattle.core_parts.specs.Hands.{Held, MayRun, after, in_hand}
use Rattle.event_spec.specs.declared.event.Event.TheVariants as event
use Rattle.event_spec.specs.declared.own.OwnTransaction.{OwnTransaction}
use Rattle.event_spec.specs.declared.part.Head.{Head}
use Rattle.event_spec.specs.Effects.{at_both, at_table, kept_places, with_empty}
use Rattle.event_spec.specs.Parts.{Changes, Parts, Shape, BodyOf, blocks_of, body_at, body_from}
use Rattle.event_spec.specs.Parts.{nothing, shard_of}
use Rattle.isolation_spec.specs.Contents.{PlaceMap}
use Rattle.key_index.specs.Candidates.{Places}
use Rattle.core_parts.specs.Heads.{gained}
use Rattle.core_parts.specs.Shards.{without_place}

-- ---- the change of one part

abbrev pub head_changed : ℕ → (Head → Head) → Changes
head_changed table change = record nothing { head = at_table table change }

abbrev pub shard_changed : ℕ → ℕ → (Places → Places) → Changes
shard_changed table shard change = record nothing { shard = at_both table shard change }

abbrev pub body_changed : ℕ → ℕ → (Body → Body) → Changes
body_changed table block change = record nothing { body = at_both table block change }

-- a body in a hand
abbrev pub body_in : Shape → Held → ℕ → ℕ → Body
body_in shape hand table block = body_from (in_hand shape hand (BodyOf table block))

-- what becomes of a shard by a slot, and of a head by a block's body: a bare slot's place is no
-- candidate, and the head knows an empty block
abbrev pub without_bare : Bool → ℤ → ℕ → Places → Places
without_bare left key place places = if left then without_place key place places else places

abbrev pub with_gain : Bool → ℕ → Head → Head
with_gain empty block head = if empty then gained block head else head

-- ---- an abort

-- One write is undone: its body is rolled back, and its shard and the head are told what that
-- leaves.
abbrev pub undone : ℕ → ℤ → ℕ → ℕ → Body → Changes
undone table key place session rolled = record nothing {
  head = at_table table (with_gain (is_empty rolled) (block_of place));
  shard = at_both table (shard_of key)
      (without_bare (is_bare (slot_in rolled (slot_of place))) key place);
  body = at_both table (block_of place) (rolled_back_in session);
}

-- some write is in a block, and some at a place
abbrev pub is_rolled : PlaceMap ℕ → ℕ → ℕ → Bool
is_rolled writes table block = list_any
    (λ write. (write.0.table == table) && (block_of write.1 == block)) writes

abbrev pub is_undone : PlaceMap ℕ → ℕ → ℕ → Bool
is_undone writes table place = list_any (λ write. (write.0.table == table) && (write.1 == place))
    writes

-- a body after its roll-back, if it is that of a write
abbrev pub rolled : ℕ → PlaceMap ℕ → ℕ → ℕ → Body → Body
rolled session writes table block body = if is_rolled writes table block
    then rolled_back_in session body else body

-- whether the slot of a place is bare after the roll-back of its body
abbrev pub is_left : Shape → Parts → ℕ → ℕ → ℕ → Bool
is_left shape parts session table place =
    is_bare (slot_in (rolled_back_in session (body_at shape parts table (block_of place)))
    (slot_of place))

-- An abort after some of the writes: their bodies are rolled back, their slots that are bare are no
-- candidates, and the heads know which blocks are empty.
abbrev pub undone_so_far : Shape → Parts → ℕ → PlaceMap ℕ → Changes
undone_so_far shape parts session writes = record nothing {
  head = λ table. with_empty
      (blocks_of shape table)
      (λ block. is_empty (rolled session writes table block (body_at shape parts table block)));
  shard = λ table shard. kept_places
      (λ place. not (is_undone writes table place && is_left shape parts session table place));
  body = rolled session writes;
}

-- The hand after some of a transaction's writes were undone.
pub record IsUndone (shape : Shape) (own : OwnTransaction) (old new : Held)
    (writes : PlaceMap ℕ) : Type 0 where
  pub may : MayRun shape (event.Abort own) old
  pub made : new ≡ after shape (undone_so_far shape may.parts own.session writes) old

-- ---- a pruning

-- A place is kept unless its slot lies below one in the block, and the pruning leaves it bare.
abbrev pub keep_to : ℕ → ℕ → Body → ℕ → ℕ → Bool
keep_to block oldest body from place =
    not ((block_of place == block) && nat_lt (slot_of place) from
    && is_bare (slot_in (pruned_in oldest body) (slot_of place)))

-- A pruning after the slots below one: their places are dropped where they will be bare.
abbrev pub dropped_to : Shape → Parts → ℕ → ℕ → ℕ → ℕ → Changes
dropped_to shape parts table block oldest from = record nothing {
  shard = λ other shard places.
      if other == table then kept_places
      (keep_to block oldest (body_at shape parts table block) from) places else places;
}

-- One slot more: where it will be bare, which tells its key, its place is dropped.
abbrev pub dropped_at : ℕ → ℕ → ℕ → Option ℤ → Changes
dropped_at table block slot None = nothing
dropped_at table block slot (Some key) = shard_changed table (shard_of key)
    (without_place key (place_of block slot))

-- The body is pruned, and the head told what that leaves.
abbrev pub pruned_by : ℕ → ℕ → ℕ → Body → Changes
pruned_by table block oldest pruned = record nothing {
  head = at_table table (with_gain (is_empty pruned) block);
  body = at_both table block (pruned_in oldest);
}

-- The hand after the slots of a block below one lost their candidates.
pub record IsDropped (shape : Shape) (table block oldest from : ℕ) (old new : Held) : Type 0 where
  pub may : MayRun shape (event.Prune table block oldest) old
  pub made : new ≡ after shape (dropped_to shape may.parts table block oldest from) old

-- The hand after all slots of a block lost the candidates that the pruning leaves without a slot.
pub record AreDropped (shape : Shape) (table block oldest : ℕ) (old new : Held) : Type 0 where
  pub from : ℕ
  pub dropped : IsDropped shape table block oldest from old new
  pub none : IsNextVersioned (body_at shape dropped.may.parts table block) from None
