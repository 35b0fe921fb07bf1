-- The slots of all columns: what a change of one slot makes of the rows.
use Rattle.std.proofs.Common.{◌≡◌, ◌≢◌, ◌⊎◌, inl, inr, ℕ, zero, suc, ◌<◌, ◌≤◌, ◌+◌, eqb, get_or, Bool, true, false, cond, List, [], ◌∷◌, length, map, refl, sym, ap, ◌∙◌, subst, arith, zero-add}
use Rattle.std.specs.Prelude.{slice_set, All, None, Some}
use Rattle.std.specs.List.{AllZip, range_with_len}
use Rattle.std.proofs.Math.ListN.{length-set}
use Rattle.std.proofs.lemmas.List.{get_or-set_same, get_or-set_other}
use Rattle.std.proofs.lemmas.List.{same_lists, set-set}
use Rattle.std.proofs.lemmas.Bool.Decides.{eqb_tells}
use Rattle.std.proofs.lemmas.List.Elements.{All-head, All-tail, All-cons, All-nil}
use Rattle.std.proofs.lemmas.List.FromFn.{length-map-range_with_len, get_or-map-range_with_len}
use Rattle.cell_model.specs.declared.cell.Cell.{Cell}
use Rattle.cell_model.specs.declared.cell.Cell.TheVariants.{Null}
use Rattle.cell_model.specs.declared.column.Column.{Column}
use Rattle.block_columns.specs.Cells.{ColumnValue}
use Rattle.block_columns.specs.Columns.{AreColumns, CellFits, cell_in, cells_at, columns_in, row_in, rows_in, with_cell, with_row, with_null, wiped}
use Rattle.block_columns.proofs.Slots.{set_same}

-- a list of what a function gives, of which one is another
pub range_set : {X : Type 0} (f g : ℕ → X) (n at : ℕ) (x : X) → ((i : ℕ) → i ≢ at → g i ≡ f i) → g at ≡ x
    → map g (range_with_len 0 n) ≡ slice_set (map f (range_with_len 0 n)) at x
range_set {X = X} f g n at x others is =
    same_lists (map g (range_with_len 0 n)) (slice_set (map f (range_with_len 0 n)) at x)
    (length-map-range_with_len g 0 n ∙ sym (length-set (map f (range_with_len 0 n)) at x ∙ length-map-range_with_len f 0 n))
    (λ k d lt. each k d (subst (λ m. k < m) (length-map-range_with_len g 0 n) lt))
  where
    each : (k : ℕ) (d : X) → k < n → get_or (map g (range_with_len 0 n)) k d ≡ get_or (slice_set (map f (range_with_len 0 n)) at x) k d
    each k d lt = go (eqb_tells k at)
      where
        go : ((eqb k at ≡ true) × (k ≡ at)) ⊎ ((eqb k at ≡ false) × (k ≢ at)) → get_or (map g (range_with_len 0 n)) k d ≡ get_or (slice_set (map f (range_with_len 0 n)) at x) k d
        go (inl same) =
            let within : at < length (map f (range_with_len 0 n)) = omega (arith, length-map-range_with_len f 0 n, same.1, lt) in
            get_or-map-range_with_len g 0 n k k d lt (zero-add k) ∙ ap g same.1 ∙ is
            ∙ sym (ap (λ m. get_or (slice_set (map f (range_with_len 0 n)) at x) m d) same.1 ∙ get_or-set_same (map f (range_with_len 0 n)) at x d within)
        go (inr other) =
            get_or-map-range_with_len g 0 n k k d lt (zero-add k) ∙ others k other.1
            ∙ sym (get_or-set_other (map f (range_with_len 0 n)) at k x d other.1 ∙ get_or-map-range_with_len f 0 n k k d lt (zero-add k))

-- what maps each number alike maps the range alike
pub range_same : {X : Type 0} (f g : ℕ → X) (n : ℕ) → ((i : ℕ) → g i ≡ f i) → map g (range_with_len 0 n) ≡ map f (range_with_len 0 n)
range_same {X = X} f g n same = from 0 n
  where
    from : (a n : ℕ) → map g (range_with_len a n) ≡ map f (range_with_len a n)
    from a zero = refl
    from a (suc n) = ap (λ z. z ∷ map g (range_with_len (a + 1) n)) (same a) ∙ ap (λ (l : List _). f a ∷ l) (from (a + 1) n)

-- the cells of a slot after it was written
pub cells_at-same : (at : ℕ) (cs : List ColumnValue) (xs : List Cell) → All (λ c. at < length c.cells) cs → length xs ≡ length cs → cells_at at (with_row at cs xs) ≡ xs
cells_at-same at [] [] room long = refl
cells_at-same at [] (x ∷ xs) room long = absurd (omega (arith, long))
cells_at-same at (c ∷ cs) [] room long = absurd (omega (arith, long))
cells_at-same at (c ∷ cs) (x ∷ xs) room long =
    ap (λ (z : Cell). z ∷ cells_at at (with_row at cs xs)) (get_or-set_same c.cells at x Null (All-head (λ (c : ColumnValue). at < length c.cells) c cs room))
    ∙ ap (λ (l : List Cell). x ∷ l) (cells_at-same at cs xs (All-tail (λ (c : ColumnValue). at < length c.cells) c cs room) (omega (arith, long)))

-- the others stay
pub cells_at-other : (i at : ℕ) (cs : List ColumnValue) (xs : List Cell) → i ≢ at → cells_at i (with_row at cs xs) ≡ cells_at i cs
cells_at-other i at [] xs ne = refl
cells_at-other i at (c ∷ cs) [] ne = refl
cells_at-other i at (c ∷ cs) (x ∷ xs) ne =
    ap (λ (z : Cell). z ∷ cells_at i (with_row at cs xs)) (get_or-set_other c.cells at i x Null ne)
    ∙ ap (λ (l : List Cell). cell_in i c ∷ l) (cells_at-other i at cs xs ne)

-- cells put into a slot leave the names and kinds of the columns
pub columns_in-with_row : (at : ℕ) (cs : List ColumnValue) (xs : List Cell) → columns_in (with_row at cs xs) ≡ columns_in cs
columns_in-with_row at [] xs = refl
columns_in-with_row at (c ∷ cs) [] = refl
columns_in-with_row at (c ∷ cs) (x ∷ xs) = ap (λ (l : List Column). c.column ∷ l) (columns_in-with_row at cs xs)

-- and their memory
pub room-with_row : (n at : ℕ) (cs : List ColumnValue) (xs : List Cell) → All (λ c. n ≤ length c.cells) cs → All (λ c. n ≤ length c.cells) (with_row at cs xs)
room-with_row n at [] xs room = room
room-with_row n at (c ∷ cs) [] room = room
room-with_row n at (c ∷ cs) (x ∷ xs) room =
    let P : ColumnValue → Type 0 = λ c. n ≤ length c.cells in
    let first : n ≤ length c.cells = All-head P c cs room in
    All-cons P (with_cell at c x) (with_row at cs xs) (omega (arith, first, length-set c.cells at x)) (room-with_row n at cs xs (All-tail P c cs room))

-- a slot with its own cells put into it is as it was
pub with_row-itself : (at : ℕ) (cs : List ColumnValue) → with_row at cs (cells_at at cs) ≡ cs
with_row-itself at [] = refl
with_row-itself at (c ∷ cs) =
    ap (λ (l : List Cell). let r : ColumnValue = record { column = c.column; cells = l } in r ∷ with_row at cs (cells_at at cs)) (set_same c.cells at Null)
    ∙ ap (λ (l : List ColumnValue). c ∷ l) (with_row-itself at cs)

-- what is written last stays
pub with_row-twice : (at : ℕ) (cs : List ColumnValue) (xs ys : List Cell) → length xs ≡ length cs → length ys ≡ length cs → with_row at (with_row at cs xs) ys ≡ with_row at cs ys
with_row-twice at [] xs ys long also = refl
with_row-twice at (c ∷ cs) [] ys long also = absurd (omega (arith, long))
with_row-twice at (c ∷ cs) (x ∷ xs) [] long also = absurd (omega (arith, also))
with_row-twice at (c ∷ cs) (x ∷ xs) (y ∷ ys) long also =
    ap (λ (l : List Cell). let r : ColumnValue = record { column = c.column; cells = l } in r ∷ with_row at (with_row at cs xs) ys) (set-set c.cells at x y)
    ∙ ap (λ (l : List ColumnValue). with_cell at c y ∷ l) (with_row-twice at cs xs ys (omega (arith, long)) (omega (arith, also)))

-- a null for each column
abbrev pub nulls : List ColumnValue → List Cell
nulls cs = map (λ (c : ColumnValue). Null) cs

-- to wipe a slot is to put nulls there
pub wiped-is : (at : ℕ) (cs : List ColumnValue) → wiped at cs ≡ with_row at cs (nulls cs)
wiped-is at [] = refl
wiped-is at (c ∷ cs) = ap (λ (l : List ColumnValue). with_null at c ∷ l) (wiped-is at cs)

-- there are as many nulls as columns
pub nulls-long : (cs : List ColumnValue) → length (nulls cs) ≡ length cs
nulls-long [] = refl
nulls-long (c ∷ cs) = ap suc (nulls-long cs)

-- each of them is null
pub nulls-null : (cs : List ColumnValue) → All (λ (cell : Cell). cell ≡ Null) (nulls cs)
nulls-null [] = All-nil (λ (cell : Cell). cell ≡ Null)
nulls-null (c ∷ cs) = All-cons (λ (cell : Cell). cell ≡ Null) Null (nulls cs) refl (nulls-null cs)

-- as many cells as columns, each null, are these
pub nulls-are : (xs : List Cell) (cs : List ColumnValue) → length xs ≡ length cs → All (λ (cell : Cell). cell ≡ Null) xs → xs ≡ nulls cs
nulls-are [] [] long null = refl
nulls-are [] (c ∷ cs) long null = absurd (omega (arith, long))
nulls-are (x ∷ xs) [] long null = absurd (omega (arith, long))
nulls-are (x ∷ xs) (c ∷ cs) long null =
    ap (λ (z : Cell). z ∷ xs) (All-head (λ (cell : Cell). cell ≡ Null) x xs null)
    ∙ ap (λ (l : List Cell). Null ∷ l) (nulls-are xs cs (omega (arith, long)) (All-tail (λ (cell : Cell). cell ≡ Null) x xs null))

-- a slot has a cell in each column
pub cells_at-long : (at : ℕ) (cs : List ColumnValue) → length (cells_at at cs) ≡ length cs
cells_at-long at [] = refl
cells_at-long at (c ∷ cs) = ap suc (cells_at-long at cs)

-- The columns after one slot got these cells, and its bit tells whether they are a row.
pub set_slot : (taken bits : List Bool) (cs after : List ColumnValue) (slots at : ℕ) (bit : Bool) (xs : List Cell) → AreColumns taken cs slots → at < length taken
    → bits ≡ slice_set taken at bit → after ≡ with_row at cs xs → length xs ≡ length cs
    → (bit ≡ true → AllZip CellFits (columns_in cs) xs) → (bit ≡ false → All (λ cell. cell ≡ Null) xs)
    → AreColumns bits after slots × (rows_in bits after slots ≡ slice_set (rows_in taken cs slots) at (cond bit (Some xs) None)) × (columns_in after ≡ columns_in cs)
set_slot taken bits cs after slots at bit xs are lt put is long fits null = (
  record {
    within = omega (arith, are.within, same_length);
    room = subst (λ (l : List ColumnValue). All (λ c. length bits ≤ length c.cells) l) (sym is)
        (subst (λ n. All (λ (c : ColumnValue). n ≤ length c.cells) (with_row at cs xs)) (sym same_length) (room-with_row (length taken) at cs xs are.room));
    fits = λ i taken_i. fits_at i taken_i (eqb_tells i at);
    bare = λ i bare_i. bare_at i bare_i (eqb_tells i at);
  },
  range_set (row_in taken cs) (row_in bits after) slots at (cond bit (Some xs) None) others itself,
  same_columns,
)
  where
    same_length : length bits ≡ length taken
    same_length = ap length put ∙ length-set taken at bit

    room_at : All (λ (c : ColumnValue). at < length c.cells) cs
    room_at k d within = omega (arith, are.room k d within, lt)

    same_columns : columns_in after ≡ columns_in cs
    same_columns = ap columns_in is ∙ columns_in-with_row at cs xs

    cells_here : cells_at at after ≡ xs
    cells_here = ap (cells_at at) is ∙ cells_at-same at cs xs room_at long

    cells_there : (i : ℕ) → i ≢ at → cells_at i after ≡ cells_at i cs
    cells_there i ne = ap (cells_at i) is ∙ cells_at-other i at cs xs ne

    bit_here : get_or bits at false ≡ bit
    bit_here = ap (λ (l : List Bool). get_or l at false) put ∙ get_or-set_same taken at bit false lt

    bit_there : (i : ℕ) → i ≢ at → get_or bits i false ≡ get_or taken i false
    bit_there i ne = ap (λ (l : List Bool). get_or l i false) put ∙ get_or-set_other taken at i bit false ne

    itself : row_in bits after at ≡ cond bit (Some xs) None
    itself = ap (λ b. cond b (Some (cells_at at after)) None) bit_here ∙ ap (λ (l : List Cell). cond bit (Some l) None) cells_here

    others : (i : ℕ) → i ≢ at → row_in bits after i ≡ row_in taken cs i
    others i ne = ap (λ b. cond b (Some (cells_at i after)) None) (bit_there i ne) ∙ ap (λ (l : List Cell). cond (get_or taken i false) (Some l) None) (cells_there i ne)

    fits_at : (i : ℕ) → get_or bits i false ≡ true → ((eqb i at ≡ true) × (i ≡ at)) ⊎ ((eqb i at ≡ false) × (i ≢ at)) → AllZip CellFits (columns_in after) (cells_at i after)
    fits_at i taken_i (inl same) =
        let set_true : bit ≡ true = sym bit_here ∙ ap (λ n. get_or bits n false) (sym same.1) ∙ taken_i in
        subst (λ (l : List Column). AllZip CellFits l (cells_at i after)) (sym same_columns)
        (subst (λ (l : List Cell). AllZip CellFits (columns_in cs) l) (sym (ap (λ n. cells_at n after) same.1 ∙ cells_here)) (fits set_true))
    fits_at i taken_i (inr other) =
        subst (λ (l : List Column). AllZip CellFits l (cells_at i after)) (sym same_columns)
        (subst (λ (l : List Cell). AllZip CellFits (columns_in cs) l) (sym (cells_there i other.1)) (are.fits i (sym (bit_there i other.1) ∙ taken_i)))

    bare_at : (i : ℕ) → get_or bits i false ≡ false → ((eqb i at ≡ true) × (i ≡ at)) ⊎ ((eqb i at ≡ false) × (i ≢ at)) → All (λ (cell : Cell). cell ≡ Null) (cells_at i after)
    bare_at i bare_i (inl same) =
        let set_false : bit ≡ false = sym bit_here ∙ ap (λ n. get_or bits n false) (sym same.1) ∙ bare_i in
        subst (λ (l : List Cell). All (λ (cell : Cell). cell ≡ Null) l) (sym (ap (λ n. cells_at n after) same.1 ∙ cells_here)) (null set_false)
    bare_at i bare_i (inr other) =
        subst (λ (l : List Cell). All (λ (cell : Cell). cell ≡ Null) l) (sym (cells_there i other.1)) (are.bare i (sym (bit_there i other.1) ∙ bare_i))
