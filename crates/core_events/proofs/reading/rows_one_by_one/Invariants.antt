use Rattle.std.proofs.Common.{◌≡◌, ◌+◌, ◌≤◌}
use Rattle.std.specs.List.{filter_map, range_with_len}
use Rattle.block_layout.specs.Place.{place_of}
use Rattle.block_spec.specs.Bodies.{slot_in}
use Rattle.core_events.specs.Reads.{row_in}
use Rattle.core_events.proofs.reading.rows_one_by_one.Given as goal

abbrev pub invariant-loop-slot : goal.invariant-loop-slot
invariant-loop-slot g l =
    (l.rows.items ≡ filter_map (λ slot. row_in l.own l.table (place_of l.block slot) (slot_in l.body slot)) (range_with_len 0 l.slot))
    × (l.steps ≤ l.fn.steps + l.slot)
