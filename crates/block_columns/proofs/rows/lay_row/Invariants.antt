use Rattle.std.proofs.Common.{◌≡◌, ◌++◌, take, drop, map}
use Rattle.cell_model.specs.declared.cell.Cell.TheVariants.{Null}
use Rattle.block_columns.specs.Cells.{ColumnValue}
use Rattle.block_columns.specs.Columns.{with_row}
use Rattle.block_columns.proofs.rows.lay_row.Given as goal

abbrev pub invariant-loop-i : goal.invariant-loop-i
invariant-loop-i l = record {
  laid : l.columns ≡ with_row l.at l.initial.columns (take l.i l.initial.cells);
  left : l.cells ≡ map (λ (c : ColumnValue). Null) (take l.i l.initial.columns) ++ drop l.i l.initial.cells;
}
