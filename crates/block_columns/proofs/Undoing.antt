-- The attributes of a slot that a patch names, one after another.
use Rattle.std.proofs.Common.{◌≡◌, ◌≢◌, ℕ, zero, suc, ◌<◌, ◌+◌, true, get_or, List, [], ◌∷◌, ◌++◌, length, take, refl, sym, ap, ◌∙◌, subst, arith}
use Rattle.std.specs.Prelude.{slice_set, All, AllPairs}
use Rattle.std.proofs.lemmas.List.{set-set, take_more, get_or-take, length-take, get_or-set_other, get_or_default}
use Rattle.std.proofs.lemmas.List.Elements.{All-take, All-head, All-tail}
use Rattle.cell_model.specs.declared.cell.Cell.{Cell}
use Rattle.cell_model.specs.declared.cell.Cell.TheVariants.{Null}
use Rattle.cell_model.specs.declared.column.Column.{Column}
use Rattle.cell_model.specs.declared.kind.Kind.TheVariants as kind
use Rattle.block_spec.specs.declared.patch.Assignment.{Assignment}
use Rattle.block_spec.specs.Fitting.{AssignmentFits, PatchFits}
use Rattle.block_spec.specs.Slots.{patched, columns_before, standing}
use Rattle.block_columns.specs.Cells.{ColumnValue, IsSlotOf}
use Rattle.block_columns.specs.Columns.{CellFits, cell_in, cells_at, columns_in, with_cell, with_row}
use Rattle.block_columns.proofs.Slots.{fits_slot, with_row-long}
use Rattle.block_columns.proofs.Tables.{cells_at-same, cells_at-long, room-with_row, with_row-itself, with_row-twice}
use Rattle.block_columns.proofs.Fitted.{assigned, patched_long, patched_back}

-- a cell more put into the slot is put into its row
pub with_row-set : (at : ℕ) (cs : List ColumnValue) (xs : List Cell) (k : ℕ) (d : ColumnValue) (x : Cell) → length xs ≡ length cs
    → slice_set (with_row at cs xs) k (with_cell at (get_or (with_row at cs xs) k d) x) ≡ with_row at cs (slice_set xs k x)
with_row-set at [] [] k d x long = refl
with_row-set at [] (y ∷ ys) k d x long = refl
with_row-set at (c ∷ cs) [] k d x long = absurd (omega (arith, long))
with_row-set at (c ∷ cs) (y ∷ ys) zero d x long = ap (λ (l : List Cell). let r : ColumnValue = record { column = c.column; cells = l } in r ∷ with_row at cs ys) (set-set c.cells at y x)
with_row-set at (c ∷ cs) (y ∷ ys) (suc k) d x long = ap (λ (l : List ColumnValue). with_cell at c y ∷ l) (with_row-set at cs ys k d x (omega (arith, long)))

-- A row that is put into a slot leaves what each column takes.
column_of : (at : ℕ) (cs : List ColumnValue) (xs : List Cell) (k : ℕ) (d : ColumnValue) → (get_or (with_row at cs xs) k d).column ≡ (get_or cs k d).column
column_of at [] xs k d = refl
column_of at (c ∷ cs) [] k d = refl
column_of at (c ∷ cs) (y ∷ ys) zero d = refl
column_of at (c ∷ cs) (y ∷ ys) (suc k) d = column_of at cs ys k d

-- What a column takes stands at the column's place among what all take.
columns_at : (cs : List ColumnValue) (k : ℕ) (d : ColumnValue) → get_or (columns_in cs) k d.column ≡ (get_or cs k d).column
columns_at [] k d = refl
columns_at (c ∷ cs) zero d = refl
columns_at (c ∷ cs) (suc k) d = columns_at cs k d

-- As many columns are declared as there are.
columns_long : (cs : List ColumnValue) → length (columns_in cs) ≡ length cs
columns_long [] = refl
columns_long (c ∷ cs) = ap suc (columns_long cs)

-- One assignment more in a patch sets its cell in the patched row.
patched_more : (row : List Cell) (p : List Assignment) (a : Assignment) → patched row (p ++ a ∷ []) ≡ slice_set (patched row p) a.column a.cell
patched_more row [] a = refl
patched_more row (b ∷ p) a = patched_more (slice_set row b.column b.cell) p a

-- One assignment more adds what stood in its column to the before-image.
before_more : (row : List Cell) (p : List Assignment) (a : Assignment) → columns_before row (p ++ a ∷ []) ≡ columns_before row p ++ standing row a ∷ []
before_more row [] a = refl
before_more row (b ∷ p) a = ap (λ (l : List Assignment). standing row b ∷ l) (before_more row p a)

module _ (at : ℕ) (init cols : List ColumnValue) (p : List Assignment) (i : ℕ) (is : cols ≡ with_row at init (patched (cells_at at init) (take i p))) where
  -- The patched cells of the slot are as many as the columns.
  now_long : length (patched (cells_at at init) (take i p)) ≡ length init
  now_long = patched_long (cells_at at init) (take i p) ∙ cells_at-long at init

  -- the column of an assignment is there
  pub patch_bounds : (a : Assignment) → AssignmentFits (columns_in init) a → a.column < length cols
  patch_bounds a fits =
      let d : Column = record { name = []; kind = kind.Bool; nullable = true } in
      let r : (a.column < length (columns_in init)) × CellFits (get_or (columns_in init) a.column d) a.cell = assigned (columns_in init) a d fits in
      let same : length cols ≡ length init = ap (λ (l : List ColumnValue). length l) is ∙ with_row-long at init (patched (cells_at at init) (take i p)) in
      omega (arith, r.0, columns_long init, same)

  -- takes its cell
  pub patch_slot : (a : Assignment) (d : ColumnValue) → AssignmentFits (columns_in init) a → IsSlotOf (get_or cols a.column d).column.kind a.cell
  patch_slot a d fits =
      subst (λ (c : Column). IsSlotOf c.kind a.cell)
      (columns_at init a.column d ∙ sym (ap (λ (l : List ColumnValue). (get_or l a.column d).column) is ∙ column_of at init (patched (cells_at at init) (take i p)) a.column d))
      (fits_slot (get_or (columns_in init) a.column d.column) a.cell (assigned (columns_in init) a d.column fits).1)

  -- and has the slot
  pub patch_room : (k : ℕ) (d : ColumnValue) → k < length cols → All (λ c. at < length c.cells) init → at < length (get_or cols k d).cells
  patch_room k d lt room =
      subst (λ (l : List ColumnValue). at < length (get_or l k d).cells) (sym is)
      (room-with_row (suc at) at init (patched (cells_at at init) (take i p)) room k d (subst (λ (l : List ColumnValue). k < length l) is lt))

  -- one more assignment of the patch is made
  pub patch_more : (a : Assignment) (d written : ColumnValue) → a ≡ get_or p i a → i < length p → written ≡ with_cell at (get_or cols a.column d) a.cell
      → slice_set cols a.column written ≡ with_row at init (patched (cells_at at init) (take (i + 1) p))
  patch_more a d written read lt new =
      ap (λ (w : ColumnValue). slice_set cols a.column w) new
      ∙ ap (λ (l : List ColumnValue). slice_set l a.column (with_cell at (get_or l a.column d) a.cell)) is
      ∙ with_row-set at init (patched (cells_at at init) (take i p)) a.column d a.cell now_long
      ∙ ap (λ (l : List Cell). with_row at init l)
      (sym (patched_more (cells_at at init) (take i p) a)
      ∙ ap (λ (l : List Assignment). patched (cells_at at init) l) (ap (λ (b : Assignment). take i p ++ b ∷ []) read ∙ sym (take_more p i a lt)))

  -- after some assignments the slot's cells are those of the patched row
  pub patch_cells : All (λ c. at < length c.cells) init → cells_at at cols ≡ patched (cells_at at init) (take i p)
  patch_cells room = ap (cells_at at) is ∙ cells_at-same at init (patched (cells_at at init) (take i p)) room now_long

-- the cell that the next assignment replaces is added to the before-image
pub before_next : (row : List Cell) (p : List Assignment) (before after : List Assignment) (i : ℕ) (a added : Assignment) → before ≡ columns_before row (take i p) → a ≡ get_or p i a → i < length p
    → after ≡ before ++ added ∷ [] → added ≡ standing row a → after ≡ columns_before row (take (i + 1) p)
before_next row p before after i a added is read lt pushed new =
    pushed ∙ ap (λ (b : Assignment). before ++ b ∷ []) new ∙ ap (λ (l : List Assignment). l ++ standing row a ∷ []) is
    ∙ sym (before_more row (take i p) a) ∙ ap (λ (l : List Assignment). columns_before row l) (ap (λ (b : Assignment). take i p ++ b ∷ []) read ∙ sym (take_more p i a lt))

-- the first assignments of a patch that fits fit
pub take_fits : (columns : List Column) (p : List Assignment) (i : ℕ) → PatchFits columns p → PatchFits columns (take i p)
take_fits columns p i fits = record {
  each = All-take (AssignmentFits columns) i p fits.each;
  distinct = λ j k d lt within.
      let short : k < i = omega (arith, within, length-take i p) in
      let there : k < length p = omega (arith, within, length-take i p) in
      subst (λ (a : Assignment). a.column ≢ (get_or (take i p) k d).column) (sym (get_or-take i p j d (omega (arith, lt, short))))
      (subst (λ (a : Assignment). (get_or p j d).column ≢ a.column) (sym (get_or-take i p k d short)) (fits.distinct j k d lt there));
}

-- the first assignments are taken back
pub undone : (at : ℕ) (init cols after : List ColumnValue) (p before : List Assignment) (i : ℕ) → cols ≡ with_row at init (patched (cells_at at init) (take i p))
    → before ≡ columns_before (cells_at at init) (take i p) → after ≡ with_row at cols (patched (cells_at at cols) before) → All (λ c. at < length c.cells) init
    → AllPairs (λ one other. one.column ≢ other.column) (take i p) → after ≡ init
undone at init cols after p before i is kept laid room apart =
    let row : List Cell = cells_at at init in
    let q : List Assignment = take i p in
    let long : length (patched row q) ≡ length init = patched_long row q ∙ cells_at-long at init in
    let back : patched (cells_at at cols) before ≡ row =
    ap (λ (l : List Cell). patched l before) (patch_cells at init cols p i is room)
    ∙ ap (λ (l : List Assignment). patched (patched row q) l) kept ∙ patched_back row q apart in
    laid ∙ ap (λ (l : List Cell). with_row at cols l) back ∙ ap (λ (l : List ColumnValue). with_row at l row) is
    ∙ with_row-twice at init (patched row q) row long (cells_at-long at init) ∙ with_row-itself at init

-- A patch leaves the cell of a column that it does not name.
patched_other : (row : List Cell) (k : ℕ) (patch : List Assignment) → All (λ (b : Assignment). k ≢ b.column) patch → get_or (patched row patch) k Null ≡ get_or row k Null
patched_other row k [] ne = refl
patched_other row k (b ∷ p) ne =
    patched_other (slice_set row b.column b.cell) k p (All-tail (λ (b : Assignment). k ≢ b.column) b p ne)
    ∙ get_or-set_other row b.column k b.cell Null (All-head (λ (b : Assignment). k ≢ b.column) b p ne)

-- A column's cell in a slot stands at the column's place among the slot's cells.
cell_of : (at : ℕ) (cs : List ColumnValue) (k : ℕ) (d : ColumnValue) → k < length cs → cell_in at (get_or cs k d) ≡ get_or (cells_at at cs) k Null
cell_of at [] k d lt = absurd (omega (arith, lt))
cell_of at (c ∷ cs) zero d lt = refl
cell_of at (c ∷ cs) (suc k) d lt = cell_of at cs k d (omega (arith, lt))

-- the cell of an assignment is the one that stood there, since the assignments before are of other
-- columns
pub patch_read : (at : ℕ) (init cols : List ColumnValue) (p : List Assignment) (i : ℕ) (a : Assignment) (d : ColumnValue) → cols ≡ with_row at init (patched (cells_at at init) (take i p))
    → a ≡ get_or p i a → i < length p → a.column < length cols → All (λ c. at < length c.cells) init → AllPairs (λ one other. one.column ≢ other.column) p
    → cell_in at (get_or cols a.column d) ≡ get_or (cells_at at init) a.column Null
patch_read at init cols p i a d is read lt within room apart =
    cell_of at cols a.column d within
    ∙ ap (λ (l : List Cell). get_or l a.column Null) (patch_cells at init cols p i is room)
    ∙ patched_other (cells_at at init) a.column (take i p) (λ j e below e'.
    let short : j < i = omega (arith, below, length-take i p) in
    apart j i a short lt
    (ap (λ (b : Assignment). b.column) (sym (get_or-take i p j a short) ∙ get_or_default (take i p) j a e below) ∙ sym e' ∙ ap (λ (b : Assignment). b.column) read))
