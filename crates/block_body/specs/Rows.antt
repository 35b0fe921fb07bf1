-- The rows of a body, be its columns its own or an image's.
use Rattle.std.specs.Prelude.{◌≡◌, ℕ, List, [], Option, None, Some, is_some, count_by}
use Rattle.cell_model.specs.declared.column.Column.{Column}
use Rattle.block_spec.specs.Slots.{Row}
use Rattle.block_columns.specs.Columns.{ColumnsValue}
use Rattle.block_columns.specs.Images.{ImageValue}

-- What the columns take, the row of each slot, how many of the first slots have memory, and the
-- image, if the rows are one's.
pub record RowsValue : Type 0 where
  pub columns : List Column
  pub rows : List (Option Row)
  pub room : ℕ
  pub image : Option ImageValue

abbrev pub own_rows : ColumnsValue → RowsValue
own_rows c = record { columns = c.columns; rows = c.rows; room = c.room; image = None }

abbrev pub in_image : ImageValue → RowsValue
in_image i = record { columns = i.columns; rows = i.slots; room = 0; image = Some i }

abbrev pub rows_value : Option ColumnsValue → Option ImageValue → RowsValue
rows_value (Some c) image = own_rows c
rows_value None (Some i) = in_image i
rows_value None None = record { columns = []; rows = []; room = 0; image = None }

-- The columns or the image is there, and not both.
abbrev pub IsEither : Option ColumnsValue → Option ImageValue → Type 0
IsEither (Some c) image = image ≡ None
IsEither None (Some i) = Unit {0}
IsEither None None = ⊥

-- One of the two is there, and so many of its slots have a row.
pub record IsOneOf (columns : Option ColumnsValue) (image : Option ImageValue)
    (taken : ℕ) : Type 0 where
  pub either : IsEither columns image
  pub count : taken ≡ count_by is_some (rows_value columns image).rows
