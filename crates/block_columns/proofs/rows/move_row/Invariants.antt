use Rattle.std.proofs.Common.{◌≡◌, ◌++◌, take, drop, map}
use Rattle.block_columns.specs.Columns.{with_null, cells_at}
use Rattle.block_columns.proofs.rows.move_row.Given as goal

abbrev pub invariant-loop-i : goal.invariant-loop-i
invariant-loop-i l = record {
  left : l.columns ≡ map (with_null l.at) (take l.i l.initial.columns) ++ drop l.i l.initial.columns;
  moved : l.cells ≡ cells_at l.at (take l.i l.initial.columns) ++ drop l.i l.initial.cells;
}
