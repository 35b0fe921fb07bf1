use Rattle.std.proofs.Common.{◌≡◌, ◌++◌, take, drop, map}
use Rattle.block_columns.specs.Columns.{with_null}
use Rattle.block_columns.proofs.rows.wipe.Given as goal

abbrev pub invariant-loop-column : goal.invariant-loop-column
invariant-loop-column l = l.columns ≡ map (with_null l.at) (take l.column-index l.initial.columns) ++ drop l.column-index l.initial.columns
