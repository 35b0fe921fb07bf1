use Rattle.std.proofs.Common.{◌≡◌, ◌++◌, map, take}
use Rattle.block_layout.specs.Place.{place_of}
use Rattle.block_spec.specs.declared.look.MovableRow.{MovableRow}
use Rattle.compact_plan.proofs.looks.push_rows.Given as goal

abbrev pub invariant-loop-row : goal.invariant-loop-row
invariant-loop-row l =
    l.rows.items ≡ l.initial.rows.items ++ map (λ (row : MovableRow). (place_of l.block row.slot, row)) (take l.row-index l.found)
