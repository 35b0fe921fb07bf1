use Rattle.std.proofs.Common.{◌≡◌, ◌≤◌, ◌+◌, take}
use Rattle.std.specs.Prelude.{flat_map, option_to_list}
use Rattle.shared_store.proofs.scanning.rows_of_columns.Given as goal

abbrev pub invariant-loop-slot : goal.invariant-loop-slot
invariant-loop-slot g l =
    (l.rows.items ≡ flat_map (λ slot. option_to_list slot) (take l.slot l.columns.rows))
    × (l.steps ≤ l.fn.steps + l.slot)
