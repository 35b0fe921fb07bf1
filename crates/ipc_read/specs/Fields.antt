-- A column of a batch as its field tells it.
use Rattle.std.specs.Prelude.{ℕ, List, map, None, Some}
use Rattle.std.specs.List.{range_with_len}
use Rattle.cell_model.specs.declared.cell.Cell.{Cell}
use Rattle.stream_spec.specs.Columns.{value_told}
use Rattle.ipc_read.specs.declared.fields.FieldView.{FieldView}
use Rattle.ipc_read.specs.Views.{cell_in}

-- the cell in a slot: what is stored there or, where this is an index, the value that it tells
abbrev pub cell_told : FieldView → ℕ → Cell
cell_told field i = elim field.values [
  | None ↦ cell_in field.view i
  | Some values ↦ value_told values.now (cell_in field.view i)
]

-- the cells of so many rows
abbrev pub cells_told : ℕ → FieldView → List Cell
cells_told rows field = map (cell_told field) (range_with_len 0 rows)
