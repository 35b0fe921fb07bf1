-- How old the entries of a slot are.
use Rattle.std.specs.Prelude.{ℕ, Bool, false, reverse, slice_get}
use Rattle.std.specs.Option.{option_map_or}
use Rattle.block_spec.specs.Slots.{Slot}
use Rattle.undo_chain.specs.Entry.{is_stamped_by}

-- The oldest entry of a slot has a stamp, which is at most a given one.
abbrev pub is_settled : Slot → ℕ → Bool
is_settled slot stamp = option_map_or (λ undo. is_stamped_by undo stamp)
    (slice_get (reverse slot.entries) 0) false
