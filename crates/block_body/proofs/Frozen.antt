-- An image with the form of all rows.
use Rattle.std.proofs.Common.{◌≡◌, ◌∙◌, ℕ, Bool, List, [], ◌∷◌, Option, Some, map, length, refl, sym, ap, subst}
use Rattle.std.specs.Prelude.{flat_map, option_to_list}
use Rattle.std.specs.List.{enumerate_from}
use Rattle.std.proofs.lemmas.List.{length-map}
use Rattle.std.proofs.lemmas.List.FromFn.{length-enumerate_from}
use Rattle.cell_model.specs.declared.column.Column.{Column}
use Rattle.arrow_spec.specs.Arrays.{column_buffers, null_count}
use Rattle.arrow_spec.specs.Batches.{Array, arrays_of, column_cells}
use Rattle.block_spec.specs.declared.phase.Phase.{Phase}
use Rattle.block_spec.specs.Slots.{Row, Slot}
use Rattle.block_spec.specs.Bodies.{Body as BodyValue}
use Rattle.block_columns.specs.Images.{FormValue, ImageValue, IsFormOf, IsWhole, rows_of}
use Rattle.block_body.specs.Bodies.{body_value}
use Rattle.block_body.specs.Chains.{Chains, entries_at}
use Rattle.block_body.specs.Frozen.{IsImageOf, image_of}
use Rattle.block_body.specs.Rows.{RowsValue}
use Rattle.block_body.proofs.Slots.{slots-rows}

-- There are as many lists of buffers as columns.
arrays_long : (columns : List Column) (rows : List Row) → length (map (λ (array : Array). array.buffers) (arrays_of columns rows)) ≡ length columns
arrays_long columns rows =
    length-map (arrays_of columns rows) (λ (array : Array). array.buffers)
    ∙ length-map (enumerate_from 0 columns) (λ (place, column). let array : Array = record { nulls = null_count (column_cells place rows); buffers = column_buffers column.kind (column_cells place rows) } in array)
    ∙ length-enumerate_from 0 columns

-- it has a list of buffers for each column
pub whole_long : (image : ImageValue) → IsWhole image → length image.form.buffers ≡ length image.columns
whole_long image whole = ap length whole.form.buffers ∙ arrays_long image.columns (rows_of image)

-- Rows that are put into slots and taken out again are the same.
rows_again : (batch : List Row) → flat_map (λ slot. option_to_list slot) (map (λ row. Some row) batch) ≡ batch
rows_again [] = refl
rows_again (row ∷ batch) = ap (λ (l : List Row). row ∷ l) (rows_again batch)

-- and is the image of the rows
pub whole_is : (columns : List Column) (slots : List (Option Row)) (form : FormValue) → IsWhole (image_of columns slots form) →
    IsImageOf columns slots (image_of columns slots form)
whole_is columns slots form whole = record {
  columns_are = refl;
  slots_are = refl;
  rows = refl;
  form = λ batch are.
      subst (λ (l : List Row). IsFormOf columns l form)
      (ap (λ (l : List (Option Row)). flat_map (λ slot. option_to_list slot) l) are ∙ rows_again batch) whole.form;
}

-- what makes a body's image whole makes that of its rows whole
pub whole_rows : (rows : RowsValue) (chains : Chains) (phase : Phase) (cooling : Bool) (rounds last : ℕ) (body : BodyValue) (form : FormValue) →
    body_value rows chains phase cooling rounds last ≡ body →
    IsWhole (image_of body.columns (map (λ slot. slot.row) body.slots) form) → IsWhole (image_of rows.columns rows.rows form)
whole_rows rows chains phase cooling rounds last body form is whole =
    subst (λ (slots : List (Option Row)). IsWhole (image_of rows.columns slots form)) (slots-rows (entries_at chains) 0 rows.rows)
    (subst (λ (b : BodyValue). IsWhole (image_of b.columns (map (λ (slot : Slot). slot.row) b.slots) form)) (sym is) whole)
