-- The columns of an image are those of the batch of its rows.
use Rattle.std.proofs.Common.{◌≡◌, ℕ, zero, suc, ◌+◌, ◌<◌, List, [], ◌∷◌, get_or, length, map, take, sym, ap, ◌∙◌, arith}
use Rattle.std.specs.Prelude.{Option}
use Rattle.std.proofs.lemmas.List.{length-map}
use Rattle.cell_model.specs.declared.cell.Cell.{Cell}
use Rattle.cell_model.specs.declared.column.Column.{Column}
use Rattle.arrow_spec.specs.Arrays.{null_count}
use Rattle.arrow_spec.specs.Batches.{Array, arrays_of, column_cells}
use Rattle.arrow_array.proofs.ArrayLemmas.{arrays_from, length-arrays}
use Rattle.block_spec.specs.Slots.{Row}
use Rattle.block_columns.specs.Columns.{cell_of}
use Rattle.block_columns.specs.Images.{ImageValue, IsWhole, rows_of}
use Rattle.block_columns.proofs.Whole.{column_cells-are, held_rows}

-- The buffers of an array.
abbrev buffers_in : Array → List (List ℕ)
buffers_in array = array.buffers

-- an array of columns that are counted from a number on
array_in : (from : ℕ) (columns : List Column) (rows : List Row) (k at : ℕ) (d : Array) (e : List (List ℕ)) → from + k ≡ at → k < length columns
    → get_or (arrays_from from columns rows) k d
    ≡ record { nulls = null_count (column_cells at rows); buffers = get_or (map buffers_in (arrays_from from columns rows)) k e }
array_in from [] rows k at d e is lt = absurd (omega arith)
array_in from (c ∷ cs) rows zero at d e is lt =
    let here : from ≡ at = omega (arith, is) in
    ap (λ (n : ℕ). let a : Array = record { nulls = null_count (column_cells n rows); buffers = get_or (map buffers_in (arrays_from from (c ∷ cs) rows)) zero e } in a) here
array_in from (c ∷ cs) rows (suc k) at d e is lt = array_in (from + 1) cs rows k at d e (omega (arith, is)) (omega (arith, lt))

-- the column of an image at a place
pub array_there : (image : ImageValue) (at nulls : ℕ) (buffers : List (List ℕ)) (array : Array) → IsWhole image → at < length image.columns
    → nulls ≡ null_count (map (cell_of at) (take image.rows image.slots)) → buffers ≡ get_or image.form.buffers at buffers
    → array ≡ record { nulls = nulls; buffers = buffers } → array ≡ get_or (arrays_of image.columns (rows_of image)) at array
array_there image at nulls buffers array whole lt counted found is =
    let cells : map (cell_of at) (take image.rows image.slots) ≡ column_cells at (rows_of image) =
    ap (λ (slots : List (Option Row)). map (cell_of at) slots) (held_rows image.rows image.slots whole.held) ∙ column_cells-are at (rows_of image) in
    is
    ∙ ap (λ (n : ℕ). let a : Array = record { nulls = n; buffers = buffers } in a) (counted ∙ ap (λ (l : List Cell). null_count l) cells)
    ∙ ap (λ (b : List (List ℕ)). let a : Array = record { nulls = null_count (column_cells at (rows_of image)); buffers = b } in a)
    (found ∙ ap (λ (l : List (List (List ℕ))). get_or l at buffers) whole.form.buffers)
    ∙ sym (array_in 0 image.columns (rows_of image) at at array buffers (omega arith) lt)

-- and it has buffers for each column
pub buffers_long : (image : ImageValue) → IsWhole image → length image.form.buffers ≡ length image.columns
buffers_long image whole =
    ap length whole.form.buffers ∙ length-map (arrays_of image.columns (rows_of image)) buffers_in
    ∙ length-arrays 0 image.columns (rows_of image)
