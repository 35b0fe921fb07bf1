-- What a change makes of a slot, be it a session's write or one half of a move.
use Rattle.std.specs.Prelude.{◌≡◌, ℕ, ◌<◌, ◌≤◌, ℤ, true, false, not, ◌&&◌, [], ◌∷◌, Option, None, Some}
use Rattle.std.specs.Prelude.{option_map, length, slice_set, if◌then◌else◌}
use Rattle.isolation_spec.specs.Contents.{key_of}
use Rattle.block_spec.specs.declared.change.Change.{Change}
use Rattle.block_spec.specs.Bodies.{Body, slot_in}
use Rattle.block_spec.specs.Slots.{Row, Slot, has_none, is_bare, image_before, pruned, row_after}
use Rattle.block_spec.specs.Slots.{taken_back}
use Rattle.block_body.specs.declared.origin.Origin.{Origin}

-- the row after the change, and an entry on top that undoes it
abbrev pub changed : Origin → Change → Slot → Slot
changed by new slot = record {
  row = row_after slot.row new;
  entries = record {
    session = by.session;
    stamp = by.stamp;
    number = 0;
    kind = by.kind;
    before = image_before slot.row new;
  } ∷ slot.entries;
}

-- A body with a row in a slot that has no entry, which is no modification.
abbrev pub with_row : ℕ → Row → Body → Body
with_row slot row body = record body
    { slots = slice_set body.slots slot (record { row = Some row; entries = [] }) }

-- The key of a slot that a pruning leaves bare, though it is not: that of the row which its newest
-- change took away.
abbrev pub key_left : ℕ → Slot → Option ℤ
key_left oldest slot = if not (is_bare slot) && is_bare (pruned oldest slot)
    then option_map key_of (taken_back slot).row else None

-- The least slot of a body, from one on, that has an entry.
abbrev pub IsNextVersioned : Body → ℕ → Option ℕ → Type 0
IsNextVersioned body from None = (slot : ℕ) → from ≤ slot → has_none (slot_in body slot).entries
    ≡ true
IsNextVersioned body from (Some slot) =
    (from ≤ slot) × (slot < length body.slots) × (has_none (slot_in body slot).entries ≡ false)
    × ((other : ℕ) → from ≤ other → other < slot → has_none (slot_in body other).entries ≡ true)
