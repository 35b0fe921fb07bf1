use Rattle.std.proofs.Common.{◌≡◌, take}
use Rattle.std.specs.Prelude.{flat_map}
use Rattle.arrow_spec.specs.Arrays.{value_of}
use Rattle.arrow_array.specs.Batches.{cell_at}
use Rattle.arrow_array.proofs.values.all_values.Given as goal

abbrev pub invariant-loop-row : goal.invariant-loop-row
invariant-loop-row l = l.bytes.items ≡ flat_map (λ row. value_of (cell_at l.place row)) (take l.row-index l.rows)
