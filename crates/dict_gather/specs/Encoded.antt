-- A column by its dictionary.
use Rattle.std.specs.Prelude.{◌≡◌, ℕ, List, length}
use Rattle.arrow_array.specs.Batches.{BatchView}
use Rattle.arrow_spec.specs.Batches.{Array, arrays_of}
use Rattle.cell_model.specs.declared.cell.Cell.{Cell}
use Rattle.cell_model.specs.declared.column.Column.{Column}
use Rattle.cell_model.specs.declared.kind.Kind.{Kind}
use Rattle.dict_gather.specs.declared.encode.Encoded.{Encoded}
use Rattle.arrow_spec.specs.DictBatches.{array_of, column_dictionary, encoded_array}

-- the column of a batch of so many rows has these cells, of this kind
pub record IsColumn (kind : Kind) (cells : List Cell) (rows : ℕ) (array : Array) : Type 0 where
  pub rows_are : length cells ≡ rows
  pub array_is : array ≡ array_of kind cells

-- a column of these cells by its dictionary
abbrev pub encoded_column : Kind → List Cell → Encoded
encoded_column kind cells = record {
  dictionary = column_dictionary kind cells;
  array = encoded_array kind cells;
}

-- the batch of these rows
abbrev pub batch_with : List Column → List (List Cell) → BatchView
batch_with columns rows = record { rows = length rows; arrays = arrays_of columns rows }
