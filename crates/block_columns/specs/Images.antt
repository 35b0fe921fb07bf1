-- The columns of a frozen block with their Arrow form.
use Rattle.std.specs.Prelude.{◌≡◌, ℕ, ◌<◌, List, Option, None, IfSome, IsSome, flat_map, map}
use Rattle.std.specs.Prelude.{option_to_list, slice_index_or, take}
use Rattle.arrow_spec.specs.Batches.{arrays_of}
use Rattle.arrow_spec.specs.Streams.{batch_message}
use Rattle.cell_model.specs.declared.column.Column.{Column}
use Rattle.block_spec.specs.Slots.{Row}
use Rattle.block_columns.specs.Columns.{ColumnsValue}

-- The buffers of each column, and a message where one was put together.
pub record FormValue : Type 0 where
  pub buffers : List (List (List ℕ))
  pub message : Option (List ℕ)

-- buffers of which no message was put together
abbrev pub apart : List (List (List ℕ)) → FormValue
apart buffers = record { buffers = buffers; message = None }

-- The buffers are those of the batch of these rows, and so is the message.
pub record IsFormOf (columns : List Column) (rows : List Row) (form : FormValue) : Type 0 where
  pub buffers : form.buffers ≡ map (λ array. array.buffers) (arrays_of columns rows)
  pub message : IfSome form.message (λ message. message ≡ batch_message columns rows)

-- What its columns take, the row of each slot, if it has one, and the form of so many first rows.
pub record ImageValue : Type 0 where
  pub columns : List Column
  pub slots : List (Option Row)
  pub rows : ℕ
  pub form : FormValue

-- the first slots of columns with this form
abbrev pub image_with : ColumnsValue → ℕ → FormValue → ImageValue
image_with columns rows form = record {
  columns = columns.columns;
  slots = columns.rows;
  rows = rows;
  form = form;
}

-- the rows of the first slots
abbrev pub rows_of : ImageValue → List Row
rows_of image = flat_map (λ slot. option_to_list slot) (take image.rows image.slots)

-- Each of the first slots has a row, and the form is that of these rows.
pub record IsWhole (image : ImageValue) : Type 0 where
  pub held : (slot : ℕ) → slot < image.rows → IsSome (slice_index_or image.slots slot None)
  pub form : IsFormOf image.columns (rows_of image) image.form
