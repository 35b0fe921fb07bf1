use Rattle.std.proofs.Common.{◌≡◌, take}
use Rattle.block_columns.specs.Columns.{cells_at}
use Rattle.block_columns.proofs.rows.read_row.Given as goal

abbrev pub invariant-loop-column : goal.invariant-loop-column
invariant-loop-column l = l.cells.items ≡ cells_at l.at (take l.column-index l.columns)
