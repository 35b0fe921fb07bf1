-- The buffers of all columns, one after another.
use Rattle.std.proofs.Common.{Vec, Global, ◌≡◌, ℕ, zero, suc, ◌<◌, ◌≤◌, ◌+◌, get_or, List, [], ◌∷◌, ◌++◌, length, take, map, refl, sym, ap, subst, ◌∙◌, arith}
use Rattle.std.specs.Prelude.{slice_get, Option, None, Some, Result, Ok, IfOk, IsSome, option_map, ◌↔◌}
use Rattle.std.specs.List.{enumerate_from}
use Rattle.std.proofs.lemmas.List.{take_all, take_more, same_lists, length-map, get_or-map, get_or_default}
use Rattle.cell_model.specs.declared.cell.Cell.{Cell}
use Rattle.cell_model.specs.declared.cell.Cell.TheVariants.{Null}
use Rattle.cell_model.specs.declared.column.Column.{Column}
use Rattle.arrow_spec.specs.Arrays.{column_buffers, null_count}
use Rattle.arrow_spec.specs.Batches.{Array, arrays_of, column_cells}
use Rattle.block_spec.specs.Slots.{Row}
use Rattle.block_columns.specs.Columns.{ColumnsValue, cell_of}
use Rattle.block_columns.specs.Images.{FormValue, ImageValue, IsWhole, apart, image_with}
use Rattle.block_columns.proofs.Whole.{HasRows, column_cells-are, held_rows, rows_in_slots}
use Rattle.block_columns.proofs.Rowed.{cells_of_rows}
use Rattle.gather_core.specs.Gathered.{buffers_from}
use Rattle.ipc_message.specs.Sizes.{IsSmallBatch}

-- each column has its buffers
pub buffers_long : (at : ℕ) (cs : List Column) (slots : List (Option Row)) → length (buffers_from at cs slots) ≡ length cs
buffers_long at [] slots = refl
buffers_long at (c ∷ cs) slots = ap suc (buffers_long (at + 1) cs slots)

-- At the place of a column stand the buffers of its cells.
buffers_at : (at : ℕ) (cs : List Column) (slots : List (Option Row)) (k j : ℕ) (c : Column) (d : List (List ℕ)) → at + k ≡ j → slice_get cs k ≡ Some c
    → get_or (buffers_from at cs slots) k d ≡ column_buffers c.kind (map (cell_of j) slots)
buffers_at at [] slots k j c d is found = cc
buffers_at at (e ∷ es) slots zero j c d is found =
    let same : e ≡ c = cc in
    let here : at ≡ j = omega (arith, is) in
    ap (λ (x : Column). column_buffers x.kind (map (cell_of at) slots)) same ∙ ap (λ n. column_buffers c.kind (map (cell_of n) slots)) here
buffers_at at (e ∷ es) slots (suc k) j c d is found = buffers_at (at + 1) es slots k j c d (omega (arith, is)) found

-- the buffers of a column that was gathered are those at its place
pub buffers_there : (cs : List Column) (rows : List (Option Row)) (n at : ℕ) (c : Column) (cells : List Cell) (x : List (List ℕ))
    → slice_get cs at ≡ Some c → n ≤ length cells → n ≤ length rows
    → ((slot : ℕ) → get_or cells slot Null ≡ cell_of at (get_or rows slot None)) → x ≡ column_buffers c.kind (take n cells)
    → x ≡ get_or (buffers_from 0 cs (take n rows)) at x
buffers_there cs rows n at c cells x found many some each made =
    made ∙ ap (λ (l : List Cell). column_buffers c.kind l) (cells_of_rows cells rows at n many some each)
    ∙ sym (buffers_at 0 cs (take n rows) at at c x (omega arith) found)

-- one column more
pub buffers_more : (all before after : List (List (List ℕ))) (at : ℕ) (x : List (List ℕ)) → before ≡ take at all → at < length all → x ≡ get_or all at x
    → after ≡ before ++ x ∷ [] → after ≡ take (at + 1) all
buffers_more all before after at x is within here pushed =
    pushed ∙ ap (λ (l : List (List (List ℕ))). l ++ x ∷ []) is ∙ ap (λ (z : List (List ℕ)). take at all ++ z ∷ []) here ∙ sym (take_more all at x within)

-- columns that were made side by side are those that are made in turn
pub buffers_each : {E : Type 0} (cs : List Column) (slots : List (Option Row)) (made : List (Result (List (List ℕ)) E)) (buffers : List (List (List ℕ)))
    → made ≡ map (λ column. Ok column) buffers → length made ≡ length cs
    → ((at : ℕ) (d : Result (List (List ℕ)) E) → at < length cs → IfOk (get_or made at d) (λ x. x ≡ get_or (buffers_from 0 cs slots) at x))
    → buffers ≡ buffers_from 0 cs slots
buffers_each {E = E} cs slots made buffers is long each =
    let held : List (List ℕ) → Result (List (List ℕ)) E = λ column. Ok column in
    let all : List (List (List ℕ)) = buffers_from 0 cs slots in
    let count : length buffers ≡ length cs =
    sym (length-map buffers held) ∙ ap (λ (l : List (Result (List (List ℕ)) E)). length l) (sym is) ∙ long in
    same_lists buffers all (count ∙ sym (buffers_long 0 cs slots))
    (λ at d lt.
    let there : IfOk (held (get_or buffers at d)) (λ x. x ≡ get_or all at x) =
    subst (λ (r : Result (List (List ℕ)) E). IfOk r (λ x. x ≡ get_or all at x))
    (ap (λ (l : List (Result (List (List ℕ)) E)). get_or l at (held d)) is ∙ get_or-map held buffers at d (held d) lt)
    (each at (held d) (omega (arith, lt, count))) in
    there ∙ get_or_default all at (get_or buffers at d) d (omega (arith, lt, count, buffers_long 0 cs slots)))

-- The arrays of the rows' columns, the first of which has a given number.
arrays_from : ℕ → List Column → List Row → List Array
arrays_from at columns rows =
    map (λ (place, column). record { nulls = null_count (column_cells place rows); buffers = column_buffers column.kind (column_cells place rows) }) (enumerate_from at columns)

-- The buffers of columns in the slots of rows are those of the rows' arrays.
batch_from : (at : ℕ) (cs : List Column) (batch : List Row) → buffers_from at cs (map (λ x. Some x) batch) ≡ map (λ (array : Array). array.buffers) (arrays_from at cs batch)
unfolding arrays_from
batch_from at [] batch = refl
batch_from at (c ∷ cs) batch =
    ap (λ (l : List Cell). column_buffers c.kind l ∷ buffers_from (at + 1) cs (map (λ x. Some x) batch)) (column_cells-are at batch)
    ∙ ap (λ (l : List (List (List ℕ))). column_buffers c.kind (column_cells at batch) ∷ l) (batch_from (at + 1) cs batch)

-- they are the buffers of the definition's batch of the rows
batch_buffers : (cs : List Column) (slots : List (Option Row)) (batch : List Row) → slots ≡ map (λ x. Some x) batch
    → buffers_from 0 cs slots ≡ map (λ (array : Array). array.buffers) (arrays_of cs batch)
unfolding arrays_from
batch_buffers cs slots batch is = ap (λ (l : List (Option Row)). buffers_from 0 cs l) is ∙ batch_from 0 cs batch

-- so they make the rows' image whole
pub whole_buffers : (columns : ColumnsValue) (n : ℕ) (buffers : List (List (List ℕ)))
    → HasRows n columns.rows → buffers ≡ buffers_from 0 columns.columns (take n columns.rows)
    → IsWhole (image_with columns n (apart buffers))
whole_buffers columns n buffers held made = record {
  held = held;
  form = record {
    buffers = made ∙ batch_buffers columns.columns (take n columns.rows) (rows_in_slots (take n columns.rows)) (held_rows n columns.rows held);
    message = tt;
  };
}

-- and so is an image of the same columns
pub whole_image : (columns copy : ColumnsValue) (n : ℕ) (form : FormValue) (image : ImageValue)
    → image ≡ image_with copy n form → copy ≡ columns → IsWhole (image_with columns n form) → IsWhole image
whole_image columns copy n form image is same whole =
    subst IsWhole (ap (λ (v : ColumnsValue). image_with v n form) (sym same) ∙ sym is) whole

-- all columns were gathered
pub buffers_all : (cs : List Column) (slots : List (Option Row)) (i : ℕ) (before : List (List (List ℕ))) → before ≡ take i (buffers_from 0 cs slots) → length cs ≤ i → before ≡ buffers_from 0 cs slots
buffers_all cs slots i before is le = is ∙ take_all i (buffers_from 0 cs slots) (omega (arith, le, buffers_long 0 cs slots))

-- a message that is kept as its bytes is there where it was
kept_message : (message : Option (Vec ℕ Global)) (Small : Type 0) → (IsSome message ↔ Small) → IsSome (option_map (λ m. m.items) message) ↔ Small
kept_message None Small told = told
kept_message (Some bytes) Small told = told

-- a form has a message where the batch of its buffers is small
pub message_told : (columns : List Column) (buffers lent : List (List (List ℕ))) (message : Option (Vec ℕ Global)) (form : FormValue)
    → form ≡ record { buffers = buffers; message = option_map (λ m. m.items) message } → lent ≡ buffers
    → (IsSome message ↔ IsSmallBatch columns lent) → IsSome form.message ↔ IsSmallBatch columns form.buffers
message_told columns buffers lent message form is same told =
    subst (λ (f : FormValue). IsSome f.message ↔ IsSmallBatch columns f.buffers) (sym is)
    (kept_message message (IsSmallBatch columns buffers) (subst (λ (b : List (List (List ℕ))). IsSome message ↔ IsSmallBatch columns b) same told))
