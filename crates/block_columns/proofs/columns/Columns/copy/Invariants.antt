use Rattle.std.proofs.Common.{◌≡◌, take}
use Rattle.block_columns.proofs.columns.Columns.copy.Given as goal

abbrev pub invariant-loop-column : goal.invariant-loop-column
invariant-loop-column l = l.columns.items ≡ take l.column-index l.self-inside.columns.items
