-- What an insert makes of a hand.
use Rattle.std.specs.Prelude.{ℕ, ℤ, is_some, if◌then◌else◌}
use Rattle.block_layout.specs.Place.{block_of, slot_of}
use Rattle.block_spec.specs.Bodies.{with_slot}
use Rattle.block_spec.specs.declared.change.Change.TheVariants as change
use Rattle.block_spec.specs.Slots.{Row, written}
use Rattle.event_spec.specs.declared.own.OwnKey.{OwnKey}
use Rattle.event_spec.specs.Effects.{at_both, at_table, taken_by, with_place}
use Rattle.event_spec.specs.Parts.{Changes, Shape, shard_of, slots_of}
use Rattle.core_events.specs.Writes.{of_body}

-- its slot and its candidate
abbrev pub row_changes : ℕ → ℕ → ℤ → ℕ → Row → Changes
row_changes session table key place row =
    record (of_body table (block_of place)
    (with_slot (slot_of place) (written session (change.Put row)))) {
      shard = at_both table (shard_of key) (with_place key place);
    }

-- and the slot that the head gives, where the transaction did not write the key
abbrev pub put_changes : Shape → OwnKey → ℕ → ℤ → ℕ → Row → Changes
put_changes shape own table key place row = record (row_changes own.session table key place row) {
  head = at_table table (if is_some own.written then (λ head. head)
      else taken_by (slots_of shape table));
}
