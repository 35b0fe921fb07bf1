-- What a compaction reads of a body: the rows that may move, the gaps that they may fill, and the
-- body's state.
use Rattle.std.specs.Prelude.{ℕ, Bool, List, length, Option, None, Some, filter, if◌then◌else◌}
use Rattle.std.specs.List.{filter_map, range_with_len}
use Rattle.isolation_spec.specs.Contents.{key_of}
use Rattle.block_spec.specs.declared.look.MovableRow.{MovableRow}
use Rattle.block_spec.specs.declared.phase.Phase.{Phase}
use Rattle.block_spec.specs.Slots.{Row, is_bare, has_none}
use Rattle.block_spec.specs.Bodies.{Body, slot_in}

-- the row of a slot where it has one and no entry
abbrev pub movable_row : ℕ → Option Row → Bool → Option MovableRow
movable_row j None quiet = None
movable_row j (Some row) quiet = if quiet then Some (record { slot = j; key = key_of row })
    else None

abbrev pub movable : Body → ℕ → Option MovableRow
movable body j = movable_row j (slot_in body j).row (has_none (slot_in body j).entries)

-- A look: the rows that may move and the bare slots, both in slot order, and whether the body is
-- loose and cooling.
pub record Look : Type 0 where
  pub rows : List MovableRow
  pub gaps : List ℕ
  pub phase : Phase
  pub cooling : Bool

abbrev pub looked : Body → Look
looked body = record {
  rows = filter_map (movable body) (range_with_len 0 (length body.slots));
  gaps = filter (λ j. is_bare (slot_in body j)) (range_with_len 0 (length body.slots));
  phase = body.phase;
  cooling = body.cooling;
}
