-- The columns of a batch, from rows that fit a schema.
use Rattle.std.proofs.Common.{◌≡◌, ℕ, suc, zero, ◌+◌, ◌*◌, ◌<◌, ◌≤◌, ◌&&◌, Bool, true, false, List, [], ◌∷◌, ◌++◌, length, get_or, map, refl, sym, ap, ◌∙◌, subst, arith, Option, Some, None, ◌⊎◌, inl, inr, append_assoc, length-append}
use Rattle.std.specs.Prelude.{flat_map, count_by, not, ◌||◌, ◌==◌, is_none, if◌then◌else◌, IsTrue, nat_lt}
use Rattle.std.specs.Int.{Width, to_le_bytes}
use Rattle.std.proofs.lemmas.Simd.{map-map}
use Rattle.std.proofs.lemmas.Bool.{eqb-true, ne_eqb}
use Rattle.std.proofs.lemmas.List.Folds.{flat_map-map}
use Rattle.std.proofs.lemmas.List.Sums.{sum_by-cons}
use Rattle.std.specs.List.{enumerate_from}
use Rattle.cell_model.specs.Rows.{Fits, first_fault, cell_fault}
use Rattle.cell_model.specs.Kinds.{values_of, most_bytes_in}
use Rattle.cell_model.specs.Values.{is_null, is_value_in, byte_length}
use Rattle.cell_model.specs.Widths.{number_width, offset_width}
use Rattle.cell_model.specs.declared.cell.Cell.{Cell}
use Rattle.cell_model.specs.declared.column.Column.{Column}
use Rattle.cell_model.specs.declared.row.RowFault.{RowFault}
use Rattle.cell_model.specs.declared.row.RowFault.TheVariants.{Arity, NullAt, RangeAt, LongAt}
use Rattle.cell_model.specs.declared.values.Values.{Values}
use Rattle.cell_model.specs.declared.values.Values.TheVariants.{Signed, Unsigned, Truths, Texts, Blobs, Strips}
use Rattle.cell_model.specs.declared.width.NumberWidth.{NumberWidth}
use Rattle.cell_model.specs.declared.width.OffsetWidth.{OffsetWidth}
use Rattle.arrow_spec.specs.Arrays.{data_buffers, layout_in, number_of, offsets, strip_of, truth_of, value_of, null_count, validity, Layout, fixed, boolean, variable, strip, column_buffers}
use Rattle.arrow_spec.specs.Batches.{Array, arrays_of, column_cells}
use Rattle.arrow_spec.specs.Bytes.{bitmap}
use Rattle.arrow_array.specs.Batches.{AreFew, bit_of, bytes_in, cell_at, is_slot_of, value_bytes}
use Rattle.arrow_array.specs.declared.bitmaps.Bit.TheVariants as bit

-- ---- the data of a column

-- the bits of a column, of its cells and of its rows
bits-are : (f : Cell → Bool) (place : ℕ) (rows : List (List Cell))
    → map f (column_cells place rows) ≡ map (λ row. f (cell_at place row)) rows
bits-are f place rows = map-map f (cell_at place) rows

-- One buffer was added, which is the data of these values.
one-buffer : (layout : Layout) (cells : List Cell) (buffers grown : List (List ℕ)) (made bytes filled : List ℕ)
    → data_buffers layout cells ≡ filled ∷ [] → made ≡ filled → bytes ≡ made → grown ≡ buffers ++ bytes ∷ []
    → grown ≡ buffers ++ data_buffers layout cells
one-buffer layout cells buffers grown made bytes filled is made_is bytes_is added =
    added
    ∙ ap (λ (b : List ℕ). buffers ++ b ∷ []) (bytes_is ∙ made_is)
    ∙ ap (λ (b : List (List ℕ)). buffers ++ b) (sym is)

-- the data buffer of truth values is their bitmap
pub truth-data : (values : Values) (place : ℕ) (rows : List (List Cell)) (buffers grown : List (List ℕ)) (made bytes : List ℕ)
    → values ≡ Truths → made ≡ bitmap (map (λ row. bit_of bit.Truth (cell_at place row)) rows) → bytes ≡ made → grown ≡ buffers ++ bytes ∷ []
    → grown ≡ buffers ++ data_buffers (layout_in values) (column_cells place rows)
truth-data values place rows buffers grown made bytes is made_is bytes_is added =
    one-buffer boolean (column_cells place rows) buffers grown made bytes (bitmap (map truth_of (column_cells place rows)))
    refl (made_is ∙ ap bitmap (sym (bits-are truth_of place rows))) bytes_is added
    ∙ ap (λ (v : Values). buffers ++ data_buffers (layout_in v) (column_cells place rows)) (sym is)

-- Texts and bytes have the layout of varying lengths.
variable-layout : (values : Values) (width : OffsetWidth) → (values ≡ Texts width) ⊎ (values ≡ Blobs width)
    → layout_in values ≡ variable (offset_width width)
variable-layout values width (inl is) = ap layout_in is
variable-layout values width (inr is) = ap layout_in is

-- the buffers of texts or bytes are their offsets and the bytes of all, one after another
pub variable-data : (values : Values) (width : OffsetWidth) (place : ℕ) (rows : List (List Cell)) (buffers more grown : List (List ℕ)) (ends ends_bytes all all_bytes : List ℕ)
    → (values ≡ Texts width) ⊎ (values ≡ Blobs width)
    → ends ≡ flat_map (to_le_bytes (offset_width width)) (offsets 0 (column_cells place rows)) → ends_bytes ≡ ends → more ≡ buffers ++ ends_bytes ∷ []
    → all ≡ flat_map (λ row. value_of (cell_at place row)) rows → all_bytes ≡ all → grown ≡ more ++ all_bytes ∷ []
    → grown ≡ buffers ++ data_buffers (layout_in values) (column_cells place rows)
variable-data values width place rows buffers more grown ends ends_bytes all all_bytes is ends_are ends_bytes_are first all_are all_bytes_are second =
    second
    ∙ ap
    (λ (b : List ℕ). more ++ b ∷ [])
    (all_bytes_are ∙ all_are ∙ sym (flat_map-map value_of (cell_at place) rows))
    ∙ ap (λ (m : List (List ℕ)). m ++ flat_map value_of (column_cells place rows) ∷ []) first
    ∙ append_assoc buffers (ends_bytes ∷ []) (flat_map value_of (column_cells place rows) ∷ [])
    ∙ ap (λ (b : List ℕ). buffers ++ b ∷ flat_map value_of (column_cells place rows) ∷ []) (ends_bytes_are ∙ ends_are)
    ∙ ap (λ (layout : Layout). buffers ++ data_buffers layout (column_cells place rows)) (sym (variable-layout values width is))

-- the data buffer of values of so many bytes has them one after another
pub strip-data : (values : Values) (width place : ℕ) (rows : List (List Cell)) (buffers grown : List (List ℕ)) (made bytes : List ℕ)
    → values ≡ Strips width → made ≡ flat_map (λ row. strip_of width (cell_at place row)) rows → bytes ≡ made → grown ≡ buffers ++ bytes ∷ []
    → grown ≡ buffers ++ data_buffers (layout_in values) (column_cells place rows)
strip-data values width place rows buffers grown made bytes is made_is bytes_is added =
    one-buffer (strip width) (column_cells place rows) buffers grown made bytes (flat_map (strip_of width) (column_cells place rows))
    refl (made_is ∙ sym (flat_map-map (strip_of width) (cell_at place) rows)) bytes_is added
    ∙ ap (λ (v : Values). buffers ++ data_buffers (layout_in v) (column_cells place rows)) (sym is)

-- these are integers
abbrev pub AreIntegers : Values → Type 0
AreIntegers values =
    ((width : NumberWidth) × (values ≡ Signed width)) ⊎ ((width : NumberWidth) × (values ≡ Unsigned width))

-- Integers have a fixed layout of some width.
fixed-layout : (values : Values) → AreIntegers values → (width : Width) × (layout_in values ≡ fixed width)
fixed-layout values (inl is) = (number_width is.0, ap layout_in is.1)
fixed-layout values (inr is) = (number_width is.0, ap layout_in is.1)

-- The data of a fixed layout are one buffer: the bytes of each cell's number, one after another.
fixed-data : (layout : Layout) (width : Width) (cells : List Cell) → layout ≡ fixed width
    → data_buffers layout cells ≡ flat_map (λ cell. bytes_in layout (number_of cell)) cells ∷ []
fixed-data layout width cells is = rw is refl

-- the data buffer of numbers has the bytes of each, one after another
pub number-data : (values : Values) (place : ℕ) (rows : List (List Cell)) (buffers grown : List (List ℕ)) (made bytes : List ℕ)
    → AreIntegers values
    → made ≡ flat_map (λ row. value_bytes values (number_of (cell_at place row))) rows → bytes ≡ made → grown ≡ buffers ++ bytes ∷ []
    → grown ≡ buffers ++ data_buffers (layout_in values) (column_cells place rows)
number-data values place rows buffers grown made bytes are made_is bytes_is added =
    let wide = fixed-layout values are in
    one-buffer (layout_in values) (column_cells place rows) buffers grown made bytes
    (flat_map (λ cell. value_bytes values (number_of cell)) (column_cells place rows))
    (fixed-data (layout_in values) wide.0 (column_cells place rows) wide.1)
    (made_is ∙ sym (flat_map-map (λ (cell : Cell). value_bytes values (number_of cell)) (cell_at place) rows)) bytes_is added

-- ---- nulls and validity

-- the nulls of a column are those of its rows' cells
pub nulls-are : (place : ℕ) (rows : List (List Cell)) → count_by (λ row. is_null (cell_at place row)) rows ≡ null_count (column_cells place rows)
nulls-are place [] = refl
nulls-are place (row ∷ rows) =
    sum_by-cons (λ (r : List Cell). if is_null (cell_at place r) then 1 else 0) row rows
    ∙ ap (λ (n : ℕ). (if is_null (cell_at place row) then 1 else 0) + n) (nulls-are place rows)
    ∙ sym (sum_by-cons (λ (cell : Cell). if is_null cell then 1 else 0) (cell_at place row) (column_cells place rows))

-- where a column has nulls, its validity is the bitmap of which cells are there
pub validity-is : (nulls place : ℕ) (rows : List (List Cell)) (bytes : List ℕ)
    → nulls ≡ null_count (column_cells place rows) → (nulls ≡ 0 → ⊥) → bytes ≡ bitmap (map (λ row. bit_of bit.Valid (cell_at place row)) rows)
    → bytes ≡ validity (column_cells place rows)
validity-is nulls place rows bytes is some bytes_are =
    let test : (null_count (column_cells place rows) == 0) ≡ false = ne_eqb (null_count (column_cells place rows)) 0 (λ none. some (is ∙ none)) in
    bytes_are
    ∙ ap bitmap (sym (bits-are (λ (cell : Cell). not (is_null cell)) place rows))
    ∙ ap
    (λ (none : Bool). if none then [] else bitmap (map (λ cell. not (is_null cell)) (column_cells place rows)))
    (sym test)

-- ---- rows that fit

-- an answer without a fault has none at either test
no-fault : (first rest : Option RowFault) → (if is_none first then rest else first) ≡ None → (first ≡ None) × (rest ≡ None)
no-fault None rest is = (refl, is)
no-fault (Some fault) rest is = absurd (cc)

-- A cell without a fault is null, or a value that is not too long.
slot-of : (null nullable value long : Bool) (at : ℕ)
    → (if null then (if nullable then None else Some (NullAt at))
    else if not value then Some (RangeAt at) else if long then Some (LongAt at) else None) ≡ None
    → IsTrue (null || (value && not long))
slot-of true nullable value long at is = refl
slot-of false nullable false long at is = absurd (cc)
slot-of false nullable true true at is = absurd (cc)
slot-of false nullable true false at is = refl

-- In a row without a fault each cell is one that a slot of its column's kind takes.
slot-within : (columns : List Column) (cells : List Cell) (place at : ℕ) (d : Column) → place < length columns → length cells ≡ length columns
    → first_fault at columns cells ≡ None → IsTrue (is_slot_of (values_of (get_or columns place d).kind) (cell_at place cells))
slot-within [] cells place at d inside same is = absurd (omega arith)
slot-within (column ∷ columns) [] place at d inside same is = absurd (omega arith)
slot-within (column ∷ columns) (cell ∷ cells) zero at d inside same is =
    slot-of (is_null cell) column.nullable (is_value_in (values_of column.kind) cell) (nat_lt (most_bytes_in (values_of column.kind)) (byte_length cell)) at
    (no-fault (cell_fault at column cell) (first_fault (at + 1) columns cells) is).0
slot-within (column ∷ columns) (cell ∷ cells) (suc place) at d inside same is =
    slot-within columns cells place (at + 1) d (omega arith) (omega arith)
    (no-fault (cell_fault at column cell) (first_fault (at + 1) columns cells) is).1

-- what is answered where a test fails is a fault
passed : (test : Bool) (rest : Option RowFault) → (if test then rest else Some Arity) ≡ None → (test ≡ true) × (rest ≡ None)
passed true rest is = (refl, is)
passed false rest is = absurd (cc)

-- each cell of a row that fits is one of its column
pub slot-fits : (columns : List Column) (row : List Cell) (column : Column) (place : ℕ) → place < length columns → column ≡ get_or columns place column
    → Fits columns row → IsTrue (is_slot_of (values_of column.kind) (cell_at place row))
slot-fits columns row column place inside is fits =
    let both = passed (length row == length columns) (first_fault 0 columns row) fits in
    let same : length row ≡ length columns = eqb-true (length row) (length columns) both.0 in
    subst (λ (c : Column). IsTrue (is_slot_of (values_of c.kind) (cell_at place row))) (sym is) (slot-within columns row place 0 column inside same both.1)

-- ---- the columns of a batch

-- the arrays of columns that are counted from a number on
abbrev pub arrays_from : ℕ → List Column → List (List Cell) → List Array
arrays_from from columns rows =
    map
    (λ (place, column). record {
      nulls = null_count (column_cells place rows);
      buffers = column_buffers column.kind (column_cells place rows);
    })
    (enumerate_from from columns)

-- The data of a column are at most two buffers.
few-buffers : (layout : Layout) (cells : List Cell) → length (data_buffers layout cells) ≤ 2
few-buffers (fixed width) cells = omega arith
few-buffers boolean cells = omega arith
few-buffers (variable width) cells = omega arith
few-buffers (strip bytes) cells = omega arith

-- The arrays of all columns have at most three buffers for each column.
few-of : (from : ℕ) (columns : List Column) (rows : List (List Cell))
    → length (flat_map (λ array. array.buffers) (arrays_from from columns rows)) ≤ 3 * length columns
few-of from [] rows = omega arith
few-of from (column ∷ columns) rows =
    let cells : List Cell = column_cells from rows in
    let here : length (data_buffers (layout_in (values_of column.kind)) cells) ≤ 2 = few-buffers (layout_in (values_of column.kind)) cells in
    let more = few-of (from + 1) columns rows in
    let joined = length-append (column_buffers column.kind cells) (flat_map (λ array. array.buffers) (arrays_from (from + 1) columns rows)) in
    omega arith

-- as many arrays as columns
pub length-arrays : (from : ℕ) (columns : List Column) (rows : List (List Cell)) → length (arrays_from from columns rows) ≡ length columns
length-arrays from [] rows = refl
length-arrays from (column ∷ columns) rows = ap suc (length-arrays (from + 1) columns rows)

-- a table's columns give few buffers
pub arrays-few : (columns : List Column) (rows : List (List Cell)) (arrays : List Array)
    → length columns ≤ 32 → arrays ≡ arrays_of columns rows → AreFew arrays
arrays-few columns rows arrays few is =
    let buffers = few-of 0 columns rows in
    let count = length-arrays 0 columns rows in
    let all : AreFew (arrays_of columns rows) = omega arith in
    subst AreFew (sym is) all
