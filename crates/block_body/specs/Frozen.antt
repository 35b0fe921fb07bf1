-- The image of a block's rows.
use Rattle.std.specs.Prelude.{◌≡◌, List, Option, Some, is_some, map, take, count_by}
use Rattle.block_spec.specs.Slots.{Row}
use Rattle.block_columns.specs.Images.{FormValue, ImageValue, IsFormOf}
use Rattle.cell_model.specs.declared.column.Column.{Column}

-- It has the columns and the slots, and the Arrow form of all rows.
pub record IsImageOf (columns : List Column) (slots : List (Option Row))
    (image : ImageValue) : Type 0 where
  pub columns_are : image.columns ≡ columns
  pub slots_are : image.slots ≡ slots
  pub rows : image.rows ≡ count_by is_some slots
  pub form : (batch : List Row) → take image.rows slots ≡ map Some batch →
      IsFormOf columns batch image.form

-- an image of all these rows with this form
abbrev pub image_of : List Column → List (Option Row) → FormValue → ImageValue
image_of columns slots form = record {
  columns = columns;
  slots = slots;
  rows = count_by is_some slots;
  form = form;
}
