use Rattle.std.proofs.Common.{◌≡◌, [], map, take}
use Rattle.block_spec.specs.Fitting.{unnamed}
use Rattle.block_columns.specs.Cells.{ColumnValue}
use Rattle.block_columns.proofs.columns.Columns.new.Given as goal

abbrev pub invariant-loop-column : goal.invariant-loop-column
invariant-loop-column l = record {
  made : l.columns.items ≡ map (λ c. let r : ColumnValue = record { column = unnamed c; cells = [] } in r) (take l.column-index l.declared);
}
