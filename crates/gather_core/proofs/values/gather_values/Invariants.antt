use Rattle.std.proofs.Common.{◌≡◌, ◌++◌, ◌*◌, ◌≤◌, drop, take}
use Rattle.std.specs.Int.{to_le_bytes}
use Rattle.std.specs.Prelude.{flat_map}
use Rattle.arrow_spec.specs.Arrays.{offsets, value_of}
use Rattle.cell_model.specs.Widths.{most_between, offset_width}
use Rattle.gather_core.proofs.values.gather_values.Given as goal

abbrev pub invariant-loop-at : goal.invariant-loop-at
invariant-loop-at l = record {
  small : l.end ≤ most_between l.width * l.at;
  starts : l.starts.items ++ flat_map (to_le_bytes (offset_width l.width)) (offsets l.end (drop l.at (take l.n l.column.cells)))
      ≡ flat_map (to_le_bytes (offset_width l.width)) (offsets 0 (take l.n l.column.cells));
  bytes : l.bytes.items ≡ flat_map value_of (take l.at l.column.cells);
}
