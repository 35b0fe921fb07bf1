-- One slot of all columns.
use Rattle.std.proofs.Common.{◌≡◌, ℕ, zero, suc, ◌<◌, ◌≤◌, ◌+◌, get_or, Bool, true, false, not, cond, List, [], ◌∷◌, ◌++◌, length, take, drop, map, refl, sym, ap, ◌∙◌, subst, arith, add-one}
use Rattle.std.specs.Prelude.{slice_set, All, None, Some, nat_lt, nat_le, ◌&&◌, ◌||◌}
use Rattle.std.specs.List.{AllZip}
use Rattle.std.proofs.lemmas.Bool.Decides.{nat_tests}
use Rattle.std.proofs.lemmas.List.{take_more, length-take, take_all, drop_all, append-nil}
use Rattle.std.proofs.lemmas.List.Elements.{All-get_or}
use Rattle.cell_model.specs.declared.cell.Cell.{Cell}
use Rattle.cell_model.specs.declared.cell.Cell.TheVariants.{Null}
use Rattle.cell_model.specs.declared.column.Column.{Column}
use Rattle.cell_model.specs.declared.row.RowFault.TheVariants.{NullAt, RangeAt, LongAt}
use Rattle.cell_model.specs.Values.{is_null, is_value_of, byte_length, most_bytes_of}
use Rattle.block_columns.specs.Cells.{ColumnValue, IsSlotOf}
use Rattle.block_columns.specs.Columns.{CellFits, IsSpare, columns_in, cell_in, with_cell, with_row, with_null, wiped}

-- a cell that keeps its column's rules is a value of its kind, or a null
pub fits_slot : (column : Column) (cell : Cell) → CellFits column cell → IsSlotOf column.kind cell
fits_slot column cell fits = go (is_null cell) (is_value_of column.kind cell) (nat_lt (most_bytes_of column.kind) (byte_length cell)) (nat_le (byte_length cell) (most_bytes_of column.kind)) (λ h. grind (arith, nat_tests)) fits
  where
    go : (null value long short : Bool) → (long ≡ false → short ≡ true)
        → cond null (cond column.nullable None (Some (NullAt 0))) (cond (not value) (Some (RangeAt 0)) (cond long (Some (LongAt 0)) None)) ≡ None → (null || (value && short)) ≡ true
    go true value long short l h = refl
    go false true true short l h = cc
    go false true false short l h = l refl
    go false false long short l h = cc

-- the cell of a column in a row that fits fits it
pub zip_at : (cs : List ColumnValue) (xs : List Cell) (i : ℕ) (d : ColumnValue) (e : Cell) → AllZip CellFits (columns_in cs) xs → i < length cs → CellFits (get_or cs i d).column (get_or xs i e)
zip_at [] xs i d e zip lt = absurd (omega (arith, lt))
zip_at (c ∷ cs) [] i d e zip lt = absurd zip
zip_at (c ∷ cs) (x ∷ xs) zero d e zip lt = zip.0
zip_at (c ∷ cs) (x ∷ xs) (suc i) d e zip lt = zip_at cs xs i d e zip.1 (omega (arith, lt))

-- a row that fits has a cell for each column
pub zip_long : (cs : List ColumnValue) (xs : List Cell) → AllZip CellFits (columns_in cs) xs → length xs ≡ length cs
zip_long [] [] zip = refl
zip_long [] (x ∷ xs) zip = absurd zip
zip_long (c ∷ cs) [] zip = absurd zip
zip_long (c ∷ cs) (x ∷ xs) zip = ap suc (zip_long cs xs zip.1)

-- the spare cell of a column serves it
pub spare_at : (at : ℕ) (cs : List ColumnValue) (xs : List Cell) (i : ℕ) (d : ColumnValue) (e : Cell) → AllZip (IsSpare at) cs xs → i < length cs → IsSpare at (get_or cs i d) (get_or xs i e)
spare_at at [] xs i d e zip lt = absurd (omega (arith, lt))
spare_at at (c ∷ cs) [] i d e zip lt = absurd zip
spare_at at (c ∷ cs) (x ∷ xs) zero d e zip lt = zip.0
spare_at at (c ∷ cs) (x ∷ xs) (suc i) d e zip lt = spare_at at cs xs i d e zip.1 (omega (arith, lt))

-- there is a spare cell for each column
pub spare_long : (at : ℕ) (cs : List ColumnValue) (xs : List Cell) → AllZip (IsSpare at) cs xs → length xs ≡ length cs
spare_long at [] [] zip = refl
spare_long at [] (x ∷ xs) zip = absurd zip
spare_long at (c ∷ cs) [] zip = absurd zip
spare_long at (c ∷ cs) (x ∷ xs) zip = ap suc (spare_long at cs xs zip.1)

-- with a column more and a cell that serves it
pub spare_push : (at : ℕ) (cs : List ColumnValue) (xs : List Cell) (c : ColumnValue) (x : Cell) → AllZip (IsSpare at) cs xs → IsSpare at c x → AllZip (IsSpare at) (cs ++ c ∷ []) (xs ++ x ∷ [])
spare_push at [] [] c x zip one = (one, tt)
spare_push at [] (y ∷ ys) c x zip one = absurd zip
spare_push at (d ∷ ds) [] c x zip one = absurd zip
spare_push at (d ∷ ds) (y ∷ ys) c x zip one = (zip.0, spare_push at ds ys c x zip.1 one)

-- columns with no cells put into a slot are as they were
pub with_row-none : (at : ℕ) (cs : List ColumnValue) → with_row at cs [] ≡ cs
with_row-none at [] = refl
with_row-none at (c ∷ cs) = refl

-- columns with cells in a slot are as many
pub with_row-long : (at : ℕ) (cs : List ColumnValue) (xs : List Cell) → length (with_row at cs xs) ≡ length cs
with_row-long at [] xs = refl
with_row-long at (c ∷ cs) [] = refl
with_row-long at (c ∷ cs) (x ∷ xs) = ap suc (with_row-long at cs xs)

-- the columns behind are as they were
pub with_row-rest : (at : ℕ) (cs : List ColumnValue) (xs : List Cell) (i : ℕ) (d : ColumnValue) → length xs ≤ i → get_or (with_row at cs xs) i d ≡ get_or cs i d
with_row-rest at [] xs i d le = refl
with_row-rest at (c ∷ cs) [] i d le = refl
with_row-rest at (c ∷ cs) (x ∷ xs) zero d le = absurd (omega (arith, le))
with_row-rest at (c ∷ cs) (x ∷ xs) (suc i) d le = with_row-rest at cs xs i d (omega (arith, le))

-- one column more
pub with_row-more : (at : ℕ) (cs : List ColumnValue) (xs : List Cell) (x : Cell) (i : ℕ) (d : ColumnValue) → i ≡ length xs → i < length cs
    → slice_set (with_row at cs xs) i (with_cell at (get_or cs i d) x) ≡ with_row at cs (xs ++ x ∷ [])
with_row-more at [] xs x i d is lt = absurd (omega (arith, lt))
with_row-more at (c ∷ cs) [] x zero d is lt = ap (λ (l : List ColumnValue). with_cell at c x ∷ l) (sym (with_row-none at cs))
with_row-more at (c ∷ cs) [] x (suc i) d is lt = absurd (omega (arith, is))
with_row-more at (c ∷ cs) (y ∷ ys) x zero d is lt = absurd (omega (arith, is))
with_row-more at (c ∷ cs) (y ∷ ys) x (suc i) d is lt = ap (λ (l : List ColumnValue). with_cell at c y ∷ l) (with_row-more at cs ys x i d (omega (arith, is)) (omega (arith, lt)))

-- wiping forgets what was written
set_set : (l : List Cell) (at : ℕ) (x y : Cell) → slice_set (slice_set l at x) at y ≡ slice_set l at y
set_set [] at x y = refl
set_set (z ∷ l) zero x y = refl
set_set (z ∷ l) (suc at) x y = ap (λ (k : List Cell). z ∷ k) (set_set l at x y)

-- what is put into a slot and wiped leaves what wiping it leaves
pub wiped-with_row : (at : ℕ) (cs : List ColumnValue) (xs : List Cell) → wiped at (with_row at cs xs) ≡ wiped at cs
wiped-with_row at [] xs = refl
wiped-with_row at (c ∷ cs) [] = refl
wiped-with_row at (c ∷ cs) (x ∷ xs) =
    ap (λ (l : List Cell). let r : ColumnValue = record { column = c.column; cells = l } in r ∷ wiped at (with_row at cs xs)) (set_set c.cells at x Null)
    ∙ ap (λ (l : List ColumnValue). with_null at c ∷ l) (wiped-with_row at cs xs)

-- a loop that has written the first columns reads the next as it was
pub state_at : (at : ℕ) (init cols : List ColumnValue) (xs : List Cell) (i : ℕ) (d : ColumnValue) → cols ≡ with_row at init (take i xs) → get_or cols i d ≡ get_or init i d
state_at at init cols xs i d is =
    let short : length (take i xs) ≤ i = omega (arith, length-take i xs) in
    ap (λ (l : List ColumnValue). get_or l i d) is ∙ with_row-rest at init (take i xs) i d short

-- and writes it
pub state_more : (at : ℕ) (init cols : List ColumnValue) (xs : List Cell) (i : ℕ) (d written : ColumnValue) (x : Cell)
    → cols ≡ with_row at init (take i xs) → x ≡ get_or xs i x → written ≡ with_cell at (get_or cols i d) x → i < length init → length xs ≡ length init
    → slice_set cols i written ≡ with_row at init (take (i + 1) xs)
state_more at init cols xs i d written x is cell new lt long =
    let within : i < length xs = omega (arith, long, lt) in
    let short : i ≡ length (take i xs) = omega (arith, length-take i xs, within) in
    let was : get_or cols i d ≡ get_or init i d = state_at at init cols xs i d is in
    ap (λ (l : List ColumnValue). slice_set l i written) is
    ∙ ap (λ (w : ColumnValue). slice_set (with_row at init (take i xs)) i w) (new ∙ ap (λ (v : ColumnValue). with_cell at v x) was)
    ∙ with_row-more at init (take i xs) x i d short lt
    ∙ ap (λ (l : List Cell). with_row at init l) (ap (λ (z : Cell). take i xs ++ z ∷ []) cell ∙ sym (take_more xs i x within))

-- what held of each column holds of the next
pub state_all : (P : ColumnValue → Type 0) (at : ℕ) (init cols : List ColumnValue) (xs : List Cell) (i : ℕ) (d : ColumnValue) → cols ≡ with_row at init (take i xs) → i < length init
    → All P init → P (get_or cols i d)
state_all P at init cols xs i d is lt all = subst P (sym (state_at at init cols xs i d is)) (All-get_or P init i d lt all)

-- the next cell of a row that fits suits its column's kind
pub state_slot : (at : ℕ) (init cols : List ColumnValue) (xs : List Cell) (i : ℕ) (d : ColumnValue) (x : Cell) → cols ≡ with_row at init (take i xs) → i < length init
    → AllZip CellFits (columns_in init) xs → x ≡ get_or xs i x → IsSlotOf (get_or cols i d).column.kind x
state_slot at init cols xs i d x is lt fits cell =
    subst (λ (v : ColumnValue). IsSlotOf v.column.kind x) (sym (state_at at init cols xs i d is))
    (fits_slot (get_or init i d).column x (subst (λ (z : Cell). CellFits (get_or init i d).column z) (sym cell) (zip_at init xs i d x fits lt)))

-- a list with an element put where it stands is the same
pub set_same : {X : Type 0} (l : List X) (i : ℕ) (d : X) → slice_set l i (get_or l i d) ≡ l
set_same [] i d = refl
set_same (y ∷ l) zero d = refl
set_same (y ∷ l) (suc i) d = ap (λ (k : List _). y ∷ k) (set_same l i d)

-- where all cells are put, the whole row is
pub state_end : (at : ℕ) (init cols : List ColumnValue) (xs : List Cell) (i : ℕ) → cols ≡ with_row at init (take i xs) → length xs ≡ length init → length init ≤ i → cols ≡ with_row at init xs
state_end at init cols xs i is long le = is ∙ ap (λ (l : List Cell). with_row at init l) (take_all i xs (omega (arith, long, le)))

-- a loop that fills the places of one list from another
pub part_at : {X Y : Type 0} (f : X → Y) (xs : List X) (ys : List Y) (i : ℕ) (d : Y) → i < length xs → length ys ≡ length xs → get_or (map f (take i xs) ++ drop i ys) i d ≡ get_or ys i d
part_at f [] ys i d lt long = absurd (omega (arith, lt))
part_at f (x ∷ xs) [] i d lt long = absurd (omega (arith, long))
part_at f (x ∷ xs) (y ∷ ys) zero d lt long = refl
part_at f (x ∷ xs) (y ∷ ys) (suc i) d lt long = part_at f xs ys i d (omega (arith, lt)) (omega (arith, long))

-- Where a front of elements has become images, one more becomes its image.
part_set : {X Y : Type 0} (f : X → Y) (xs : List X) (ys : List Y) (i : ℕ) (d : X) → i < length xs → length ys ≡ length xs
    → slice_set (map f (take i xs) ++ drop i ys) i (f (get_or xs i d)) ≡ map f (take (suc i) xs) ++ drop (suc i) ys
part_set f [] ys i d lt long = absurd (omega (arith, lt))
part_set f (x ∷ xs) [] i d lt long = absurd (omega (arith, long))
part_set f (x ∷ xs) (y ∷ ys) zero d lt long = refl
part_set f (x ∷ xs) (y ∷ ys) (suc i) d lt long = ap (λ (l : List _). f x ∷ l) (part_set f xs ys i d (omega (arith, lt)) (omega (arith, long)))

-- one more of a list is what it is mapped to
pub part_more : {X Y : Type 0} (f : X → Y) (xs : List X) (ys now : List Y) (i : ℕ) (d : X) (y : Y) → now ≡ map f (take i xs) ++ drop i ys → y ≡ f (get_or xs i d) → i < length xs → length ys ≡ length xs
    → slice_set now i y ≡ map f (take (i + 1) xs) ++ drop (i + 1) ys
part_more f xs ys now i d y is new lt long =
    ap (λ (l : List _). slice_set l i y) is ∙ ap (λ z. slice_set (map f (take i xs) ++ drop i ys) i z) new
    ∙ part_set f xs ys i d lt long ∙ ap (λ n. map f (take n xs) ++ drop n ys) (sym (add-one i))

-- where all of a list are, the list is mapped
pub part_end : {X Y : Type 0} (f : X → Y) (xs : List X) (ys now : List Y) (i : ℕ) → now ≡ map f (take i xs) ++ drop i ys → length xs ≤ i → length ys ≡ length xs → now ≡ map f xs
part_end f xs ys now i is le long =
    is ∙ ap (λ (l : List _). map f l ++ drop i ys) (take_all i xs le) ∙ ap (λ (l : List _). map f xs ++ l) (drop_all i ys (omega (arith, le, long))) ∙ append-nil (map f xs)

-- what is not mapped yet stands as it was
pub filled_at : {X Y : Type 0} (f : X → Y) (xs : List X) (ys now : List Y) (i : ℕ) (d : Y) → now ≡ map f (take i xs) ++ drop i ys → i < length xs → length ys ≡ length xs → get_or now i d ≡ get_or ys i d
filled_at f xs ys now i d is lt long = ap (λ (l : List _). get_or l i d) is ∙ part_at f xs ys i d lt long

-- the spare cell of a column that a loop has not come to
pub spare_of : (at : ℕ) (init cols : List ColumnValue) (spares now : List Cell) (i : ℕ) (d : ColumnValue) (e : Cell) → cols ≡ map (with_null at) (take i init) ++ drop i init
    → now ≡ map (cell_in at) (take i init) ++ drop i spares → i < length init → AllZip (IsSpare at) init spares → IsSpare at (get_or cols i d) (get_or now i e)
spare_of at init cols spares now i d e left moved lt zip =
    subst (λ (v : ColumnValue). IsSpare at v (get_or now i e)) (sym (filled_at (with_null at) init init cols i d left lt refl))
    (subst (λ (z : Cell). IsSpare at (get_or init i d) z) (sym (filled_at (cell_in at) init spares now i e moved lt (spare_long at init spares zip)))
    (spare_at at init spares i d e zip lt))

-- the cell that a loop moves out is the one that was there
pub moved_out : (init : List ColumnValue) (cells now : List Cell) (i : ℕ) (x read : Cell) → now ≡ map (λ (c : ColumnValue). Null) (take i init) ++ drop i cells
    → read ≡ get_or now i read → x ≡ get_or now i read → i < length init → length cells ≡ length init → x ≡ get_or cells i x
moved_out init cells now i x read is at value lt long =
    value ∙ filled_at (λ (c : ColumnValue). Null) init cells now i read is lt long ∙ ap (λ (z : Cell). get_or cells i z) (at ∙ sym value)
