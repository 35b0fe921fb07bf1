-- Rows as the columns of a record batch that is encoded by dictionaries.
use Rattle.std.specs.Prelude.{ℕ, if◌then◌else◌, List, length, map, Option, Some, None}
use Rattle.std.specs.List.{enumerate_from}
use Rattle.arrow_spec.specs.Arrays.{column_buffers, null_count}
use Rattle.arrow_spec.specs.Batches.{Array, column_cells}
use Rattle.cell_model.specs.declared.cell.Cell.{Cell}
use Rattle.cell_model.specs.declared.column.Column.{Column}
use Rattle.cell_model.specs.declared.kind.Kind.{Kind}
use Rattle.cell_model.specs.declared.kind.Kind.TheVariants.{I32}
use Rattle.arrow_spec.specs.Dictionaries.{dictionary_cells, index_cells, is_encoded}

-- A dictionary: how many values it has, and the column of these, in which none is null.
pub record Dictionary : Type 0 where
  pub size : ℕ
  pub array : Array

-- Rows by dictionaries: how many there are, for each column its dictionary, if it has one, and the
-- columns of the record batch.
pub record DictBatch : Type 0 where
  pub rows : ℕ
  pub dictionaries : List (Option Dictionary)
  pub arrays : List Array

-- the column of these cells
abbrev pub array_of : Kind → List Cell → Array
array_of kind cells = record { nulls = null_count cells; buffers = column_buffers kind cells }

-- the dictionary of a column of these cells
abbrev pub dictionary_with : Kind → List Cell → Dictionary
dictionary_with kind cells = record { size = length cells; array = array_of kind cells }

abbrev pub column_dictionary : Kind → List Cell → Option Dictionary
column_dictionary kind cells =
    if is_encoded kind then Some (dictionary_with kind (dictionary_cells kind cells)) else None

-- a column of these cells as it stands in the record batch: where it is encoded, its indices as
-- signed numbers of 32 bits
abbrev pub encoded_array : Kind → List Cell → Array
encoded_array kind cells =
    if is_encoded kind then array_of I32 (index_cells cells) else array_of kind cells

-- what is made of each column with the rows' cells at its place
abbrev pub of_columns : {X : Type 0} → (Kind → List Cell → X) → List Column → List (List Cell) → List X
of_columns make columns rows =
    map (λ (place, column). make column.kind (column_cells place rows)) (enumerate_from 0 columns)

-- The rows by dictionaries.
abbrev pub dict_batch_of : List Column → List (List Cell) → DictBatch
dict_batch_of columns rows = record {
  rows = length rows;
  dictionaries = of_columns column_dictionary columns rows;
  arrays = of_columns encoded_array columns rows;
}
