use Rattle.std.proofs.Common.{take}
use Rattle.std.specs.List.{AllZip}
use Rattle.block_columns.specs.Columns.{IsSpare}
use Rattle.block_columns.proofs.rows.spare_row.Given as goal

abbrev pub invariant-loop-column : goal.invariant-loop-column
invariant-loop-column l = AllZip (IsSpare l.at) (take l.column-index l.columns) l.cells.items
