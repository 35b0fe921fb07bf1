use Rattle.std.proofs.Common.{◌≡◌, ◌++◌, ◌*◌, ◌≤◌, drop}
use Rattle.std.specs.Int.{to_le_bytes}
use Rattle.std.specs.Prelude.{flat_map}
use Rattle.cell_model.specs.Widths.{most_between, offset_width}
use Rattle.arrow_spec.specs.Arrays.{offsets}
use Rattle.arrow_spec.specs.Batches.{column_cells}
use Rattle.arrow_array.proofs.values.offsets.Given as goal

abbrev pub invariant-loop-row : goal.invariant-loop-row
invariant-loop-row l = record {
  small : l.end ≤ l.row-index * most_between l.fn.width;
  bytes : l.bytes.items ++ flat_map (to_le_bytes (offset_width l.fn.width)) (offsets l.end (column_cells l.place (drop l.row-index l.rows)))
      ≡ flat_map (to_le_bytes (offset_width l.fn.width)) (offsets 0 (column_cells l.place l.rows));
}
