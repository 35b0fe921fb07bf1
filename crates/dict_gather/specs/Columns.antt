-- The columns whose values have any length and lie between offsets of 32 bits.
use Rattle.std.specs.Prelude.{◌≡◌, List, length, flat_map}
use Rattle.std.specs.Int.{w32, to_le_bytes}
use Rattle.arrow_spec.specs.Arrays.{null_count, offsets, validity, value_of}
use Rattle.cell_model.specs.declared.cell.Cell.{Cell}
use Rattle.dict_gather.specs.declared.slots.VariableColumn.{VariableColumn}

-- the column has these cells
pub record HasCells (cells : List Cell) (column : VariableColumn) : Type 0 where
  pub rows_are : length cells ≡ column.rows
  pub nulls_are : null_count cells ≡ column.nulls
  pub validity_is : column.validity.now ≡ validity cells
  pub offsets_are : column.offsets.now ≡ flat_map (to_le_bytes w32) (offsets 0 cells)
  pub values_are : column.values.now ≡ flat_map value_of cells
