-- What a read finds in a body.
use Rattle.std.specs.Prelude.{ℕ, List, Option, None, Some, option_and_then, length, if◌then◌else◌}
use Rattle.std.specs.List.{filter_map}
use Rattle.block_layout.specs.Place.{place_of}
use Rattle.block_spec.specs.Bodies.{Body, slot_in}
use Rattle.block_spec.specs.Slots.{Row, Slot, seen}
use Rattle.event_spec.specs.declared.own.OwnTransaction.{OwnTransaction}
use Rattle.event_spec.specs.Parts.{below}
use Rattle.event_spec.specs.Replies.{is_elsewhere}
use Rattle.isolation_spec.specs.Contents.{at_place, key_of, place_at}

-- the row of a slot that the session sees, but for one whose key it wrote at another place
abbrev pub row_in : OwnTransaction → ℕ → ℕ → Slot → Option Row
row_in own table place slot = option_and_then
    (λ row. if is_elsewhere (at_place own.writes (place_at table (key_of row))) place then None
    else Some row)
    (seen slot own.snapshot.stamp own.session)

-- those of a body, in slot order
abbrev pub rows_in : OwnTransaction → ℕ → ℕ → Body → List Row
rows_in own table block body =
    filter_map (λ slot. row_in own table (place_of block slot) (slot_in body slot))
    (below (length body.slots))
