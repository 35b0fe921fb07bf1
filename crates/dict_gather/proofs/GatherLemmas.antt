-- The columns of a batch, one after another.
use Rattle.std.proofs.Common.{◌≡◌, ℕ, zero, suc, ◌+◌, ◌<◌, ◌≤◌, Bool, true, false, List, [], ◌∷◌, ◌++◌, length, take, map, get_or, refl, sym, ap, ◌∙◌, subst, arith, length-append, Option}
use Rattle.std.specs.Prelude.{IfOk, Result, Ok, Err, flat_map}
use Rattle.std.specs.List.{enumerate_from}
use Rattle.std.specs.declared.alloc.AllocError.{AllocError}
use Rattle.std.proofs.lemmas.List.{get_or-map, get_or_default, length-map, same_lists, take_more}
use Rattle.arrow_array.specs.Batches.{AreFew, BatchView}
use Rattle.arrow_spec.specs.Batches.{Array, column_cells}
use Rattle.cell_model.specs.declared.cell.Cell.{Cell}
use Rattle.cell_model.specs.declared.column.Column.{Column}
use Rattle.cell_model.specs.declared.kind.Kind.{Kind}
use Rattle.cell_model.specs.declared.kind.Kind.TheVariants.{I32}
use Rattle.arrow_spec.specs.DictBatches.{DictBatch, Dictionary, array_of, column_dictionary, dict_batch_of, encoded_array, of_columns}
use Rattle.arrow_spec.specs.Dictionaries.{is_encoded}
use Rattle.arrow_array.specs.Dicts.{AreEach}
use Rattle.dict_gather.specs.Encoded.{IsColumn, batch_with, encoded_column}
use Rattle.dict_gather.specs.declared.encode.Encoded.{Encoded}
use Rattle.dict_gather.proofs.EncodeLemmas.{array-lacks, array-there, encoded-buffers}

-- what is made of columns that are counted from a number on
abbrev pub made_from : {X : Type 0} → (Kind → List Cell → X) → ℕ → List Column → List (List Cell) → List X
made_from make from columns rows =
    map (λ (place, column). make column.kind (column_cells place rows)) (enumerate_from from columns)

pub length-made : {X : Type 0} (make : Kind → List Cell → X) (from : ℕ) (columns : List Column) (rows : List (List Cell))
    → length (made_from make from columns rows) ≡ length columns
length-made make from [] rows = refl
length-made make from (column ∷ columns) rows = ap suc (length-made make (from + 1) columns rows)

-- at a column's place stands what is made of its cells
pub made-at : {X : Type 0} (make : Kind → List Cell → X) (from : ℕ) (columns : List Column) (rows : List (List Cell)) (at place : ℕ) (d : X) (c : Column)
    → at < length columns → from + at ≡ place
    → get_or (made_from make from columns rows) at d ≡ make (get_or columns at c).kind (column_cells place rows)
made-at make from [] rows at place d c inside is = absurd (omega arith)
made-at make from (column ∷ columns) rows zero place d c inside is =
    let same : from ≡ place = omega (arith, is) in
    ap (λ (n : ℕ). make column.kind (column_cells n rows)) same
made-at make from (column ∷ columns) rows (suc at) place d c inside is =
    made-at make (from + 1) columns rows at place d c (omega arith) (omega arith)

-- what is made further of what was made
pub map-made : {X Y : Type 0} (f : X → Y) (make : Kind → List Cell → X) (from : ℕ) (columns : List Column) (rows : List (List Cell))
    → map f (made_from make from columns rows) ≡ made_from (λ kind cells. f (make kind cells)) from columns rows
map-made f make from [] rows = refl
map-made f make from (column ∷ columns) rows =
    ap (λ (rest : List _). f (make column.kind (column_cells from rows)) ∷ rest) (map-made f make (from + 1) columns rows)

-- ---- one column

-- some column
abbrev pub any_column : Column
any_column = record { name = []; kind = I32; nullable = false }

-- a column of a batch has the cells of the rows at its place
pub column-is : (batch : BatchView) (columns : List Column) (rows : List (List Cell)) (arrays : List Array) (count at : ℕ) (array : Array)
    → batch ≡ batch_with columns rows → arrays ≡ batch.arrays → count ≡ batch.rows → at < length batch.arrays → array ≡ get_or arrays at array
    → IsColumn (get_or columns at any_column).kind (column_cells at rows) count array
column-is batch columns rows arrays count at array is same counted inside here =
    let size = length-made array_of 0 columns rows in
    let within : at < length columns = omega (arith, size, ap (λ (b : BatchView). length b.arrays) is) in
    record {
      rows_are = length-map rows _ ∙ sym (ap (λ (b : BatchView). b.rows) is) ∙ sym counted;
      array_is =
          here
          ∙ ap (λ (l : List Array). get_or l at array) (same ∙ ap (λ (b : BatchView). b.arrays) is)
          ∙ made-at array_of 0 columns rows at at array any_column within (omega arith);
    }

-- a column of a batch is one of its rows' columns
pub column-within : (batch : BatchView) (columns : List Column) (rows : List (List Cell)) (at : ℕ) → batch ≡ batch_with columns rows → at < length batch.arrays
    → at < length columns
column-within batch columns rows at is inside =
    omega (arith, length-made array_of 0 columns rows, ap (λ (b : BatchView). length b.arrays) is)

-- there are as many columns as the rows have
pub count-made : (batch : BatchView) (columns : List Column) (rows : List (List Cell)) → batch ≡ batch_with columns rows
    → length batch.arrays ≡ length (of_columns encoded_column columns rows)
count-made batch columns rows is =
    ap (λ (b : BatchView). length b.arrays) is ∙ length-made array_of 0 columns rows ∙ sym (length-made encoded_column 0 columns rows)

-- the column that was made is that at the place
pub encoded-is : (r : Result Encoded AllocError) (columns : List Column) (rows : List (List Cell)) (at : ℕ) → at < length columns
    → IfOk r (λ encoded. encoded.dictionary ≡ column_dictionary (get_or columns at any_column).kind (column_cells at rows))
    → IfOk r (λ encoded. encoded.array ≡ encoded_array (get_or columns at any_column).kind (column_cells at rows))
    → IfOk r (λ encoded. encoded ≡ get_or (of_columns encoded_column columns rows) at encoded)
encoded-is (Ok encoded) columns rows at inside dictionary array =
    ap (λ (d : Option Dictionary). let made : Encoded = record { dictionary = d; array = encoded.array } in made) dictionary
    ∙ ap (λ (a : Array). let made : Encoded = record { dictionary = column_dictionary (get_or columns at any_column).kind (column_cells at rows); array = a } in made) array
    ∙ sym (made-at encoded_column 0 columns rows at at encoded any_column inside (omega arith))
encoded-is (Err refused) columns rows at inside dictionary array = tt

-- ---- all columns

-- one column more
pub more-made : (all before after : List Encoded) (at : ℕ) (x : Encoded) → before ≡ take at all → at < length all → x ≡ get_or all at x
    → after ≡ before ++ x ∷ [] → after ≡ take (at + 1) all
more-made all before after at x is within here pushed =
    pushed ∙ ap (λ (l : List Encoded). l ++ x ∷ []) is ∙ ap (λ (z : Encoded). take at all ++ z ∷ []) here ∙ sym (take_more all at x within)

-- columns that were made side by side are those that are made in turn
pub each-made : (all : List Encoded) (made : List (Result Encoded AllocError)) (encoded : List Encoded)
    → made ≡ map (λ column. Ok column) encoded → length made ≡ length all
    → ((at : ℕ) (d : Result Encoded AllocError) → at < length all → IfOk (get_or made at d) (λ x. x ≡ get_or all at x))
    → encoded ≡ all
each-made all made encoded is long each =
    let held : Encoded → Result Encoded AllocError = λ column. Ok column in
    let count : length encoded ≡ length all =
    sym (length-map encoded held) ∙ ap (λ (l : List (Result Encoded AllocError)). length l) (sym is) ∙ long in
    same_lists encoded all count
    (λ at d lt.
    let there : IfOk (held (get_or encoded at d)) (λ x. x ≡ get_or all at x) =
    subst (λ (r : Result Encoded AllocError). IfOk r (λ x. x ≡ get_or all at x))
    (ap (λ (l : List (Result Encoded AllocError)). get_or l at (held d)) is ∙ get_or-map held encoded at d (held d) lt)
    (each at (held d) (omega (arith, lt, count))) in
    there ∙ get_or_default all at (get_or encoded at d) d (omega (arith, lt, count)))

fewer-by : (test : Bool) (kind : Kind) (cells : List Cell) → is_encoded kind ≡ test → length (encoded_array kind cells).buffers ≤ length (array_of kind cells).buffers
fewer-by true kind cells is =
    let three : length (array_of kind cells).buffers ≡ 3 = ap length (encoded-buffers kind cells is) in
    subst (λ (array : Array). length array.buffers ≤ length (array_of kind cells).buffers) (array-there kind cells is) (omega arith)
fewer-by false kind cells is =
    subst (λ (array : Array). length array.buffers ≤ length (array_of kind cells).buffers) (array-lacks kind cells is) (omega arith)

fewer : (from : ℕ) (columns : List Column) (rows : List (List Cell))
    → length (flat_map (λ array. array.buffers) (made_from encoded_array from columns rows))
    ≤ length (flat_map (λ array. array.buffers) (made_from array_of from columns rows))
fewer from [] rows = omega arith
fewer from (column ∷ columns) rows =
    let cells : List Cell = column_cells from rows in
    omega (
      arith,
      fewer-by (is_encoded column.kind) column.kind cells refl,
      fewer (from + 1) columns rows,
      length-append (encoded_array column.kind cells).buffers (flat_map (λ array. array.buffers) (made_from encoded_array (from + 1) columns rows)),
      length-append (array_of column.kind cells).buffers (flat_map (λ array. array.buffers) (made_from array_of (from + 1) columns rows)),
    )

-- the columns by dictionaries are few where those of the batch are
pub few-made : (batch : BatchView) (columns : List Column) (rows : List (List Cell)) (encoded : List Encoded) → batch ≡ batch_with columns rows
    → AreFew batch.arrays → encoded ≡ of_columns encoded_column columns rows → AreFew (map (λ column. column.array) encoded)
few-made batch columns rows encoded is few made =
    let arrays : map (λ (column : Encoded). column.array) encoded ≡ made_from encoded_array 0 columns rows =
    ap (map (λ (column : Encoded). column.array)) made ∙ map-made (λ (column : Encoded). column.array) encoded_column 0 columns rows in
    let plain : AreFew (made_from array_of 0 columns rows) = subst (λ (b : BatchView). AreFew b.arrays) is few in
    let count = length-made encoded_array 0 columns rows in
    let counted = length-made array_of 0 columns rows in
    let those : AreFew (made_from encoded_array 0 columns rows) = omega (arith, fewer 0 columns rows) in
    subst AreFew (sym arrays) those

-- dictionaries and columns that were parted are those of the rows
pub parted-is : (batch : BatchView) (columns : List Column) (rows : List (List Cell)) (encoded : List Encoded) (dicts : DictBatch) → batch ≡ batch_with columns rows
    → encoded ≡ of_columns encoded_column columns rows
    → dicts ≡ record { rows = batch.rows; dictionaries = map (λ column. column.dictionary) encoded; arrays = map (λ column. column.array) encoded }
    → dicts ≡ dict_batch_of columns rows
parted-is batch columns rows encoded dicts is made parted =
    let all : List Encoded = of_columns encoded_column columns rows in
    parted
    ∙ ap (λ (n : ℕ). record { rows = n; dictionaries = map (λ column. column.dictionary) encoded; arrays = map (λ column. column.array) encoded })
    (ap (λ (b : BatchView). b.rows) is)
    ∙ ap (λ (e : List Encoded). record { rows = length rows; dictionaries = map (λ column. column.dictionary) e; arrays = map (λ column. column.array) e }) made
    ∙ ap (λ (d : List (Option Dictionary)). record { rows = length rows; dictionaries = d; arrays = map (λ column. column.array) all })
    (map-made (λ (column : Encoded). column.dictionary) encoded_column 0 columns rows)
    ∙ ap (λ (a : List Array). record { rows = length rows; dictionaries = of_columns column_dictionary columns rows; arrays = a })
    (map-made (λ (column : Encoded). column.array) encoded_column 0 columns rows)

-- there are as many dictionaries as columns
pub each-parted : (encoded : List Encoded) (dictionaries : List (Option Dictionary)) (arrays : List Array)
    → dictionaries ≡ map (λ column. column.dictionary) encoded → arrays ≡ map (λ column. column.array) encoded
    → AreFew (map (λ column. column.array) encoded) → AreEach dictionaries arrays
each-parted encoded dictionaries arrays first second few = record {
  each =
      ap length first ∙ length-map encoded (λ (column : Encoded). column.dictionary)
      ∙ sym (ap length second ∙ length-map encoded (λ (column : Encoded). column.array));
  few = subst AreFew (sym second) few;
}
