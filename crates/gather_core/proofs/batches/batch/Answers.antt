use Rattle.std.proofs.Common.{◌≡◌, ◌∙◌, ℕ, List, Option, length, sym, ap}
use Rattle.cell_model.specs.declared.column.Column.{Column}
use Rattle.arrow_array.specs.Batches.{BatchView}
use Rattle.arrow_array.proofs.ArrayLemmas.{arrays-few}
use Rattle.arrow_spec.specs.Batches.{Array, arrays_of}
use Rattle.block_spec.specs.Slots.{Row}
use Rattle.block_columns.specs.Columns.{ColumnsValue}
use Rattle.block_columns.specs.Images.{ImageValue, apart, image_with, rows_of}
use Rattle.block_columns.proofs.Whole.{held_count}
use Rattle.gather_core.proofs.batches.batch.Goals as goal

-- the columns that are lent from the parts of an image are those of its rows
lent-is : (image : ImageValue) (columns : ColumnsValue) (rows : ℕ) (buffers : List (List (List ℕ)))
    → columns.columns ≡ image.columns → columns.rows ≡ image.slots → rows ≡ image.rows
    → arrays_of columns.columns (rows_of (image_with columns rows (apart buffers))) ≡ arrays_of image.columns (rows_of image)
lent-is image columns rows buffers same_columns same_slots same_rows =
    let told : List Column → List (Option Row) → ℕ → List Array = λ c s n.
    arrays_of c (rows_of (record { columns = image.columns; slots = s; rows = n; form = image.form })) in
    ap (λ (c : List Column). told c columns.rows rows) same_columns
    ∙ ap (λ (s : List (Option Row)). told image.columns s rows) same_slots
    ∙ ap (λ (n : ℕ). told image.columns image.slots n) same_rows

pub new-requires : goal.new-requires
new-requires c =
    let image : ImageValue = c.args.image.now in
    arrays-few image.columns (rows_of image) c.in_ok-arrays.arrays.items c.requires.few
    (c.in_ok-arrays.ensures ∙ c.as_slice.ensures.value ∙ c.in_ok-lent.ensures
    ∙ lent-is image c.columns.result.now c.rows-rows.result c.buffers.result.now c.columns.ensures.columns c.columns.ensures.rows c.rows-rows.ensures)

pub returns : goal.returns
returns c =
    let image : ImageValue = c.args.image.now in
    let arrays : c.in_ok-arrays.arrays.items ≡ arrays_of image.columns (rows_of image) =
    c.in_ok-arrays.ensures ∙ c.as_slice.ensures.value ∙ c.in_ok-lent.ensures
    ∙ lent-is image c.columns.result.now c.rows-rows.result c.buffers.result.now c.columns.ensures.columns c.columns.ensures.rows c.rows-rows.ensures in
    let rows : c.rows-rows.result ≡ length (rows_of image) =
    c.rows-rows.ensures ∙ sym (held_count image.rows image.slots c.requires.whole.held) in
    let of_rows : ℕ → BatchView = λ n. record { rows = n; arrays = c.in_ok-arrays.arrays.items } in
    let of_arrays : List Array → BatchView = λ all. record { rows = length (rows_of image); arrays = all } in
    c.new.ensures ∙ ap of_rows rows ∙ ap of_arrays arrays
