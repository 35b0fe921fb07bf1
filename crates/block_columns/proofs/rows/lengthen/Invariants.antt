use Rattle.std.proofs.Common.{ℕ, ◌<◌, ◌≤◌, length, get_or}
use Rattle.std.specs.List.{AllZip}
use Rattle.block_columns.specs.Cells.{ColumnValue}
use Rattle.block_columns.specs.Columns.{IsLonger}
use Rattle.block_columns.proofs.rows.lengthen.Given as goal

abbrev pub invariant-loop-column : goal.invariant-loop-column
invariant-loop-column l = record {
  longer : AllZip IsLonger l.initial.columns l.columns;
  done : (k : ℕ) (d : ColumnValue) → k < l.column-index → l.to ≤ length (get_or l.columns k d).cells;
}
