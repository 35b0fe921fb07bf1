-- Rows and patches that fit, cell by cell.
use Rattle.std.proofs.Common.{◌≡◌, ◌≢◌, ◌⊎◌, inl, inr, ℕ, zero, suc, ◌<◌, ◌+◌, eqb, get_or, Bool, true, false, not, cond, List, [], ◌∷◌, length, refl, sym, ap, ◌∙◌, subst, arith}
use Rattle.std.specs.Prelude.{slice_set, slice_get, All, AllPairs, Option, None, Some, is_none, nat_lt, IsSomeAnd}
use Rattle.std.specs.List.{AllZip}
use Rattle.std.proofs.lemmas.Bool.Decides.{eqb_tells}
use Rattle.std.proofs.Math.ListN.{length-set}
use Rattle.std.proofs.lemmas.List.{set-set, length-map, get_or-map}
use Rattle.block_columns.proofs.Slots.{set_same}
use Rattle.std.proofs.lemmas.List.Elements.{All-head, All-tail, All-cons, All-nil}
use Rattle.cell_model.specs.declared.cell.Cell.{Cell}
use Rattle.cell_model.specs.declared.cell.Cell.TheVariants.{Null}
use Rattle.cell_model.specs.declared.column.Column.{Column}
use Rattle.cell_model.specs.declared.row.RowFault.{RowFault}
use Rattle.cell_model.specs.declared.row.RowFault.TheVariants.{Arity, NullAt, RangeAt, LongAt}
use Rattle.cell_model.specs.Rows.{cell_fault, first_fault, Fits}
use Rattle.cell_model.specs.Values.{is_null, is_value_of, byte_length, most_bytes_of}
use Rattle.block_spec.specs.declared.patch.Assignment.{Assignment}
use Rattle.block_spec.specs.Fitting.{AssignmentFits, PatchFits}
use Rattle.block_spec.specs.Slots.{patched, columns_before, standing}
use Rattle.block_columns.specs.Columns.{CellFits}

-- a cell's fault does not come from its column's number
pub fault_any : (i j : ℕ) (column : Column) (cell : Cell) → cell_fault i column cell ≡ None → cell_fault j column cell ≡ None
fault_any i j column cell = go (is_null cell) column.nullable (not (is_value_of column.kind cell)) (nat_lt (most_bytes_of column.kind) (byte_length cell))
  where
    go : (null nullable other long : Bool)
        → cond null (cond nullable None (Some (NullAt i))) (cond other (Some (RangeAt i)) (cond long (Some (LongAt i)) None)) ≡ None
        → cond null (cond nullable None (Some (NullAt j))) (cond other (Some (RangeAt j)) (cond long (Some (LongAt j)) None)) ≡ None
    go true true other long h = refl
    go true false other long h = cc
    go false nullable true long h = cc
    go false nullable false true h = cc
    go false nullable false false h = refl

-- Where no cell is the first with a fault, each cell fits its column.
first_each : (at : ℕ) (columns : List Column) (cells : List Cell) → length cells ≡ length columns → first_fault at columns cells ≡ None → AllZip CellFits columns cells
first_each at [] [] long h = tt
first_each at [] (x ∷ xs) long h = absurd (omega (arith, long))
first_each at (c ∷ cs) [] long h = absurd (omega (arith, long))
first_each at (c ∷ cs) (x ∷ xs) long h = go (cell_fault at c x) refl h (λ h. first_each (at + 1) cs xs (omega (arith, long)) h)
  where
    go : (fault : Option RowFault) → cell_fault at c x ≡ fault → cond (is_none fault) (first_fault (at + 1) cs xs) fault ≡ None
        → (first_fault (at + 1) cs xs ≡ None → AllZip CellFits cs xs) → CellFits c x × AllZip CellFits cs xs
    go None is h rest = (fault_any at 0 c x is, rest h)
    go (Some f) is h rest = cc

-- Where each cell fits its column, none is the first with a fault.
each_first : (at : ℕ) (columns : List Column) (cells : List Cell) → AllZip CellFits columns cells → first_fault at columns cells ≡ None
each_first at [] [] each = refl
each_first at [] (x ∷ xs) each = absurd each
each_first at (c ∷ cs) [] each = absurd each
each_first at (c ∷ cs) (x ∷ xs) each =
    ap (λ (f : Option RowFault). cond (is_none f) (first_fault (at + 1) cs xs) f) (fault_any 0 at c x each.0) ∙ each_first (at + 1) cs xs each.1

-- a row that fits has a cell for each column that keeps its rules, and the other way round
pub row_each : (columns : List Column) (row : List Cell) → Fits columns row → AllZip CellFits columns row
row_each columns row fits = go (eqb_tells (length row) (length columns))
  where
    go : ((eqb (length row) (length columns) ≡ true) × (length row ≡ length columns)) ⊎ ((eqb (length row) (length columns) ≡ false) × (length row ≢ length columns)) → AllZip CellFits columns row
    go (inl same) = first_each 0 columns row same.1 (sym (ap (λ b. cond b (first_fault 0 columns row) (Some Arity)) same.0) ∙ fits)
    go (inr other) = let no : Some Arity ≡ None = sym (ap (λ b. cond b (first_fault 0 columns row) (Some Arity)) other.0) ∙ fits in cc

-- a row of cells that fit has one for each column
pub zip_length : (columns : List Column) (row : List Cell) → AllZip CellFits columns row → length row ≡ length columns
zip_length [] [] each = refl
zip_length [] (x ∷ xs) each = absurd each
zip_length (c ∷ cs) [] each = absurd each
zip_length (c ∷ cs) (x ∷ xs) each = ap suc (zip_length cs xs each.1)

-- a row whose cells fit fits
pub each_row : (columns : List Column) (row : List Cell) → AllZip CellFits columns row → Fits columns row
each_row columns row each = go (eqb_tells (length row) (length columns))
  where
    go : ((eqb (length row) (length columns) ≡ true) × (length row ≡ length columns)) ⊎ ((eqb (length row) (length columns) ≡ false) × (length row ≢ length columns)) → Fits columns row
    go (inl same) = ap (λ b. cond b (first_fault 0 columns row) (Some Arity)) same.0 ∙ each_first 0 columns row each
    go (inr other) = absurd (other.1 (zip_length columns row each))

-- an assignment that fits is of a column that there is
pub assigned : (columns : List Column) (a : Assignment) (d : Column) → AssignmentFits columns a → (a.column < length columns) × CellFits (get_or columns a.column d) a.cell
assigned columns a d fits = from columns a.column fits
  where
    from : (cs : List Column) (k : ℕ) → IsSomeAnd (slice_get cs k) (λ column. cell_fault a.column column a.cell ≡ None) → (k < length cs) × CellFits (get_or cs k d) a.cell
    from [] k h = absurd h
    from (c ∷ cs) zero h = (omega arith, fault_any a.column 0 c a.cell h)
    from (c ∷ cs) (suc k) h = let r : (k < length cs) × CellFits (get_or cs k d) a.cell = from cs k h in (omega (arith, r.0), r.1)

-- a row that fits, with another cell that fits its column, fits
pub zip_set : (columns : List Column) (row : List Cell) (k : ℕ) (x : Cell) (d : Column) → AllZip CellFits columns row → CellFits (get_or columns k d) x → AllZip CellFits columns (slice_set row k x)
zip_set [] [] k x d each fits = tt
zip_set [] (y ∷ ys) k x d each fits = absurd each
zip_set (c ∷ cs) [] k x d each fits = absurd each
zip_set (c ∷ cs) (y ∷ ys) zero x d each fits = (fits, each.1)
zip_set (c ∷ cs) (y ∷ ys) (suc k) x d each fits = (each.0, zip_set cs ys k x d each.1 fits)

-- a row after a patch that fits
pub patched_each : (columns : List Column) (row : List Cell) (patch : List Assignment) (d : Column) → AllZip CellFits columns row → All (AssignmentFits columns) patch → AllZip CellFits columns (patched row patch)
patched_each columns row [] d each fits = each
patched_each columns row (a ∷ p) d each fits =
    patched_each columns (slice_set row a.column a.cell) p d
    (zip_set columns row a.column a.cell d each (assigned columns a d (All-head (AssignmentFits columns) a p fits)).1)
    (All-tail (AssignmentFits columns) a p fits)

-- a patched row has as many cells
pub patched_long : (row : List Cell) (patch : List Assignment) → length (patched row patch) ≡ length row
patched_long row [] = refl
patched_long row (a ∷ p) = patched_long (slice_set row a.column a.cell) p ∙ length-set row a.column a.cell

-- two columns are assigned in either order
set_comm : (row : List Cell) (j k : ℕ) (x y : Cell) → j ≢ k → slice_set (slice_set row j x) k y ≡ slice_set (slice_set row k y) j x
set_comm [] j k x y ne = refl
set_comm (z ∷ row) zero zero x y ne = absurd (ne refl)
set_comm (z ∷ row) zero (suc k) x y ne = refl
set_comm (z ∷ row) (suc j) zero x y ne = refl
set_comm (z ∷ row) (suc j) (suc k) x y ne = ap (λ (l : List Cell). z ∷ l) (set_comm row j k x y (λ e. ne (ap suc e)))

-- A cell whose column a patch does not name may be set before the patch or after it.
patched_set : (row : List Cell) (k : ℕ) (x : Cell) (patch : List Assignment) → All (λ (b : Assignment). k ≢ b.column) patch → patched (slice_set row k x) patch ≡ slice_set (patched row patch) k x
patched_set row k x [] ne = refl
patched_set row k x (b ∷ p) ne =
    ap (λ (r : List Cell). patched r p) (set_comm row k b.column x b.cell (All-head (λ (b : Assignment). k ≢ b.column) b p ne))
    ∙ patched_set (slice_set row b.column b.cell) k x p (All-tail (λ (b : Assignment). k ≢ b.column) b p ne)

-- no two assignments are of one column
abbrev pub Apart : List Assignment → Type 0
Apart patch = AllPairs (λ one other. one.column ≢ other.column) patch

-- The column of a patch's first assignment is that of no other.
apart_head : (a : Assignment) (p : List Assignment) → Apart (a ∷ p) → All (λ (b : Assignment). a.column ≢ b.column) p
apart_head a p apart = λ k d lt. apart 0 (suc k) d (omega arith) (omega (arith, lt))

-- Without its first assignment a patch still names no column twice.
apart_tail : (a : Assignment) (p : List Assignment) → Apart (a ∷ p) → Apart p
apart_tail a p apart = λ i j d lt within. apart (suc i) (suc j) d (omega (arith, lt)) (omega (arith, within))

-- a patch is undone by what stood in its columns
pub patched_back : (row : List Cell) (patch : List Assignment) → Apart patch → patched (patched row patch) (columns_before row patch) ≡ row
patched_back row [] apart = refl
patched_back row (a ∷ p) apart =
    let ne : All (λ (b : Assignment). a.column ≢ b.column) p = apart_head a p apart in
    ap (λ (r : List Cell). patched r (columns_before row p))
    (ap (λ (r : List Cell). slice_set r a.column (get_or row a.column Null)) (patched_set row a.column a.cell p ne)
    ∙ set-set (patched row p) a.column a.cell (get_or row a.column Null)
    ∙ sym (patched_set row a.column (get_or row a.column Null) p ne)
    ∙ ap (λ (r : List Cell). patched r p) (set_same row a.column Null))
    ∙ patched_back row p (apart_tail a p apart)

-- the before-image of a patch fits
pub before_each : (columns : List Column) (row : List Cell) (patch : List Assignment) → AllZip CellFits columns row → All (AssignmentFits columns) patch → All (AssignmentFits columns) (columns_before row patch)
before_each columns row [] each fits = All-nil (AssignmentFits columns)
before_each columns row (a ∷ p) each fits =
    All-cons (AssignmentFits columns) (standing row a) (columns_before row p) (one columns row a.column each (All-head (AssignmentFits columns) a p fits))
    (before_each columns row p each (All-tail (AssignmentFits columns) a p fits))
  where
    one : (cs : List Column) (xs : List Cell) (k : ℕ) → AllZip CellFits cs xs → IsSomeAnd (slice_get cs k) (λ column. cell_fault a.column column a.cell ≡ None)
        → IsSomeAnd (slice_get cs k) (λ column. cell_fault a.column column (get_or xs k Null) ≡ None)
    one [] xs k each h = absurd h
    one (c ∷ cs) [] k each h = absurd each
    one (c ∷ cs) (x ∷ xs) zero each h = fault_any 0 a.column c x each.0
    one (c ∷ cs) (x ∷ xs) (suc k) each h = one cs xs k each.1 h

-- What stood in the columns of a patch names no column twice where the patch does not.
before_apart : (row : List Cell) (patch : List Assignment) → Apart patch → Apart (columns_before row patch)
before_apart row patch apart = λ i j d lt within.
    let long : j < length patch = omega (arith, within, length-map patch (standing row)) in
    let first : i < length patch = omega (arith, lt, long) in
    subst (λ (m : ℕ). m ≢ (get_or (columns_before row patch) j d).column) (sym (column_at i d first))
    (subst (λ (m : ℕ). (get_or patch i d).column ≢ m) (sym (column_at j d long)) (apart i j d lt long))
  where
    column_at : (i : ℕ) (d : Assignment) → i < length patch → (get_or (columns_before row patch) i d).column ≡ (get_or patch i d).column
    column_at i d lt = ap (λ (a : Assignment). a.column) (get_or-map (standing row) patch i d d lt)

-- what a patch replaces in a row that fits is a patch that fits
pub before_fits : (columns : List Column) (row : List Cell) (patch : List Assignment) → AllZip CellFits columns row → PatchFits columns patch → PatchFits columns (columns_before row patch)
before_fits columns row patch each fits = record { each = before_each columns row patch each fits.each; distinct = before_apart row patch fits.distinct }
