-- The rows that the bits and the columns give.
use Rattle.std.proofs.Common.{◌≡◌, ◌≢◌, ℕ, zero, suc, ◌<◌, ◌≤◌, ◌+◌, inl, inr, get_or, Bool, true, false, cond, List, [], ◌∷◌, ◌++◌, length, take, drop, replicate, map, refl, sym, ap, ◌∙◌, subst, arith, zero-add}
use Rattle.std.specs.Prelude.{slice_set, slice_get, is_some, All, Option, None, Some, IsSome, Result, Ok, Err, OnOk, OnErr}
use Rattle.std.specs.List.{AllZip, range_with_len}
use Rattle.std.proofs.lemmas.Bool.{cases_lt}
use Rattle.std.proofs.lemmas.List.{get_or_past, drop_all, append-nil, take_all, length-append, length-replicate, append_assoc, replicate-append-replicate, get_or-set_same, get_or-set_other, same_lists, length-take-le, length-map, get_or-take, get_or_default, get_or-map}
use Rattle.std.proofs.lemmas.Bool.Decides.{eqb_tells}
use Rattle.std.proofs.lemmas.List.Elements.{All-head, All-tail, All-cons, All-nil}
use Rattle.std.proofs.lemmas.List.FromFn.{length-map-range_with_len, get_or-map-range_with_len}
use Rattle.cell_model.specs.declared.cell.Cell.{Cell}
use Rattle.cell_model.specs.declared.cell.Cell.TheVariants.{Null}
use Rattle.cell_model.specs.declared.column.Column.{Column}
use Rattle.cell_model.specs.declared.kind.Kind.TheVariants as kind
use Rattle.block_columns.specs.Cells.{ColumnValue}
use Rattle.block_columns.specs.Columns.{AreColumns, CellFits, ColumnsValue, IsLonger, cell_of, cells_at, columns_in, row_in, rows_in, with_row}
use Rattle.block_spec.specs.Fitting.{columns_of, unnamed}
use Rattle.block_spec.specs.Slots.{Row}
use Rattle.block_columns.proofs.Slots.{set_same, with_row-long}
use Rattle.block_columns.proofs.Tables.{range_same, set_slot}

-- a slice that was written is the whole vector's
pub written_back : {X : Type 0} (new old : List X) (len : ℕ) → length new ≡ length old → len ≡ length old → take len (new ++ drop (length new) old) ≡ new
written_back new old len same is =
    ap (λ (l : List _). take len (new ++ l)) (drop_all (length new) old (omega (arith, same))) ∙ ap (λ (l : List _). take len l) (append-nil new)
    ∙ take_all len new (omega (arith, same, is))

-- the row of any slot, also of one that is not there
pub row_at : (taken : List Bool) (cs : List ColumnValue) (slots at : ℕ) → AreColumns taken cs slots → get_or (rows_in taken cs slots) at None ≡ row_in taken cs at
row_at taken cs slots at are = elim (cases_lt at slots) [
  | inl lt ↦ get_or-map-range_with_len (row_in taken cs) 0 slots at at None lt (zero-add at)
  | inr le ↦
      get_or_past (rows_in taken cs slots) at None (omega (arith, le, length-map-range_with_len (row_in taken cs) 0 slots))
      ∙ ap (λ b. cond b (Some (cells_at at cs)) None) (sym (get_or_past taken at false (omega (arith, le, are.within))))
]

-- there is a row, or none, for each slot
pub rows_long : (taken : List Bool) (cs : List ColumnValue) (slots : ℕ) → length (rows_in taken cs slots) ≡ slots
rows_long taken cs slots = length-map-range_with_len (row_in taken cs) 0 slots

-- a row that is there has its bit
pub has_bit : (bit : Bool) (row : List Cell) → IsSome (cond bit (Some row) None) → bit ≡ true
has_bit true row h = refl
has_bit false row h = cc

-- and with the bit it is there
pub bit_has : (bit : Bool) (row : List Cell) → bit ≡ true → IsSome (cond bit (Some row) None)
bit_has true row h = refl
bit_has false row h = cc

-- a slot with a row is among those with memory
pub bit_within : (taken : List Bool) (at : ℕ) → get_or taken at false ≡ true → at < length taken
bit_within [] at h = cc
bit_within (b ∷ bs) zero h = omega arith
bit_within (b ∷ bs) (suc at) h = let r : at < length bs = bit_within bs at h in omega (arith, r)

-- what the columns are seen as
abbrev pub seen_as : List Bool → List ColumnValue → ℕ → ColumnsValue
seen_as taken cs slots = record { columns = columns_in cs; rows = rows_in taken cs slots; room = length taken }

-- A slot with memory got these cells and this bit.
pub slot_written : (taken bits : List Bool) (cs new : List ColumnValue) (slots at len : ℕ) (bit : Bool) (xs : List Cell) (value : ColumnsValue) → seen_as taken cs slots ≡ value
    → AreColumns taken cs slots → at < length taken → bits ≡ slice_set taken at bit → new ≡ with_row at cs xs → len ≡ length cs → length xs ≡ length cs
    → (bit ≡ true → AllZip CellFits (columns_in cs) xs) → (bit ≡ false → All (λ cell. cell ≡ Null) xs)
    → AreColumns bits (take len (new ++ drop (length new) cs)) slots
    × (rows_in bits (take len (new ++ drop (length new) cs)) slots ≡ slice_set value.rows at (cond bit (Some xs) None))
    × (columns_in (take len (new ++ drop (length new) cs)) ≡ value.columns)
slot_written taken bits cs new slots at len bit xs value view are lt put is whole long fits null =
    let same : length new ≡ length cs = ap (λ (l : List ColumnValue). length l) is ∙ with_row-long at cs xs in
    let after : take len (new ++ drop (length new) cs) ≡ with_row at cs xs = written_back new cs len same whole ∙ is in
    let r = set_slot taken bits cs (take len (new ++ drop (length new) cs)) slots at bit xs are lt put after long fits null in (
      r.0,
      r.1 ∙ ap (λ (v : ColumnsValue). slice_set v.rows at (cond bit (Some xs) None)) view,
      r.2 ∙ ap (λ (v : ColumnsValue). v.columns) view,
    )

-- each column that is kept is one that is seen
pub columns_long : (cs : List ColumnValue) → length (columns_in cs) ≡ length cs
columns_long [] = refl
columns_long (c ∷ cs) = ap suc (columns_long cs)

-- a column to stand where there is none
abbrev pub no_column : Column
no_column = record { name = []; kind = kind.Bool; nullable = true }

-- a row that is seen has its bit, and is the cells of its slot
pub row_here : (taken : List Bool) (cs : List ColumnValue) (slots at : ℕ) (value : ColumnsValue) → seen_as taken cs slots ≡ value → AreColumns taken cs slots → IsSome (get_or value.rows at None)
    → (get_or taken at false ≡ true) × (get_or value.rows at None ≡ Some (cells_at at cs))
row_here taken cs slots at value view are some =
    let seen : get_or value.rows at None ≡ row_in taken cs at = ap (λ (v : ColumnsValue). get_or v.rows at None) (sym view) ∙ row_at taken cs slots at are in
    let bit : get_or taken at false ≡ true = has_bit (get_or taken at false) (cells_at at cs) (subst (λ (o : Option (List Cell)). IsSome o) seen some) in
    (bit, seen ∙ ap (λ b. cond b (Some (cells_at at cs)) None) bit)

-- each column has memory for each slot that has a bit, set or not
pub room_all : (taken : List Bool) (cs : List ColumnValue) (slots at : ℕ) → AreColumns taken cs slots → at < length taken → All (λ c. at < length c.cells) cs
room_all taken cs slots at are lt = λ k d within. omega (arith, are.room k d within, lt)

-- bits with one put where it is already are the same
pub itself : (taken : List Bool) (at : ℕ) (bit : Bool) → get_or taken at false ≡ bit → taken ≡ slice_set taken at bit
itself taken at bit is = sym (set_same taken at false) ∙ ap (λ b. slice_set taken at b) is

-- a slot has a row where its bit is set
pub row_bit : (taken : List Bool) (cs : List ColumnValue) (slots at : ℕ) (value : ColumnsValue) → seen_as taken cs slots ≡ value → AreColumns taken cs slots → get_or taken at false ≡ true → IsSome (get_or value.rows at None)
row_bit taken cs slots at value view are bit =
    subst (λ (o : Option (List Cell)). IsSome o) (sym (row_at taken cs slots at are) ∙ ap (λ (v : ColumnsValue). get_or v.rows at None) view)
    (bit_has (get_or taken at false) (cells_at at cs) bit)

-- With nulls behind the cells the same is read at each place.
get_or-padded : (xs : List Cell) (n i : ℕ) → get_or (xs ++ replicate n Null) i Null ≡ get_or xs i Null
get_or-padded [] n i = none n i
  where
    none : (n i : ℕ) → get_or (replicate n Null) i Null ≡ Null
    none zero i = refl
    none (suc n) zero = refl
    none (suc n) (suc i) = none n i
get_or-padded (x ∷ xs) n zero = refl
get_or-padded (x ∷ xs) n (suc i) = get_or-padded xs n i

-- bits that are not set, put behind others, are read as those that are missing
pub bits-padded : (xs : List Bool) (n i : ℕ) → get_or (xs ++ replicate n false) i false ≡ get_or xs i false
bits-padded [] n i = none n i
  where
    none : (n i : ℕ) → get_or (replicate n false) i false ≡ false
    none zero i = refl
    none (suc n) zero = refl
    none (suc n) (suc i) = none n i
bits-padded (x ∷ xs) n zero = refl
bits-padded (x ∷ xs) n (suc i) = bits-padded xs n i

-- Columns with nulls behind their cells have the same cells in each slot.
longer_cells : (i : ℕ) (cs new : List ColumnValue) → AllZip IsLonger cs new → cells_at i new ≡ cells_at i cs
longer_cells i [] [] zip = refl
longer_cells i [] (d ∷ ds) zip = absurd zip
longer_cells i (c ∷ cs) [] zip = absurd zip
longer_cells i (c ∷ cs) (d ∷ ds) zip =
    ap (λ (x : Cell). x ∷ cells_at i ds) (ap (λ (v : ColumnValue). get_or v.cells i Null) zip.0.1 ∙ get_or-padded c.cells zip.0.0 i)
    ∙ ap (λ (l : List Cell). get_or c.cells i Null ∷ l) (longer_cells i cs ds zip.1)

-- Columns with nulls behind their cells take the same.
longer_columns : (cs new : List ColumnValue) → AllZip IsLonger cs new → columns_in new ≡ columns_in cs
longer_columns [] [] zip = refl
longer_columns [] (d ∷ ds) zip = absurd zip
longer_columns (c ∷ cs) [] zip = absurd zip
longer_columns (c ∷ cs) (d ∷ ds) zip =
    ap (λ (x : Column). x ∷ columns_in ds) (ap (λ (v : ColumnValue). v.column) zip.0.1) ∙ ap (λ (l : List Column). c.column ∷ l) (longer_columns cs ds zip.1)

-- columns that got longer have room for as many slots
pub longer_room : (n : ℕ) (cs new : List ColumnValue) → AllZip IsLonger cs new → All (λ c. n ≤ length c.cells) cs → All (λ c. n ≤ length c.cells) new
longer_room n [] [] zip room = room
longer_room n [] (d ∷ ds) zip room = absurd zip
longer_room n (c ∷ cs) [] zip room = absurd zip
longer_room n (c ∷ cs) (d ∷ ds) zip room =
    let P : ColumnValue → Type 0 = λ c. n ≤ length c.cells in
    let first : n ≤ length c.cells = All-head P c cs room in
    let more : length d.cells ≡ length c.cells + zip.0.0 = ap (λ (v : ColumnValue). length v.cells) zip.0.1 ∙ length-append c.cells (replicate zip.0.0 Null) ∙ ap (λ m. length c.cells + m) (length-replicate zip.0.0 Null) in
    All-cons P d ds (omega (arith, first, more)) (longer_room n cs ds zip.1 (All-tail P c cs room))

-- and are as many
pub longer_long : (cs new : List ColumnValue) → AllZip IsLonger cs new → length new ≡ length cs
longer_long [] [] zip = refl
longer_long [] (d ∷ ds) zip = absurd zip
longer_long (c ∷ cs) [] zip = absurd zip
longer_long (c ∷ cs) (d ∷ ds) zip = ap suc (longer_long cs ds zip.1)

-- More memory changes no row.
pub grown : (taken bits : List Bool) (cs new : List ColumnValue) (slots : ℕ) → AreColumns taken cs slots → AllZip IsLonger cs new → ((i : ℕ) → get_or bits i false ≡ get_or taken i false)
    → length bits ≤ slots → All (λ c. length bits ≤ length c.cells) new
    → AreColumns bits new slots × (rows_in bits new slots ≡ rows_in taken cs slots) × (columns_in new ≡ columns_in cs)
grown taken bits cs new slots are longer same within room = (
  record {
    within = within;
    room = room;
    fits = λ at bit.
        subst (λ (l : List Column). AllZip CellFits l (cells_at at new)) (sym (longer_columns cs new longer))
        (subst (λ (l : List Cell). AllZip CellFits (columns_in cs) l) (sym (longer_cells at cs new longer)) (are.fits at (sym (same at) ∙ bit)));
    bare = λ at bit. subst (λ (l : List Cell). All (λ (cell : Cell). cell ≡ Null) l) (sym (longer_cells at cs new longer)) (are.bare at (sym (same at) ∙ bit));
  },
  range_same (row_in taken cs) (row_in bits new) slots (λ i. ap (λ b. cond b (Some (cells_at i new)) None) (same i) ∙ ap (λ (l : List Cell). cond (get_or taken i false) (Some l) None) (longer_cells i cs new longer)),
  longer_columns cs new longer,
)

-- Columns without cells have only nulls in a slot.
none_cells : (at : ℕ) (ds : List Column) → All (λ (cell : Cell). cell ≡ Null) (cells_at at (map (λ (c : Column). let r : ColumnValue = record { column = record c { name = [] }; cells = [] } in r) ds))
none_cells at [] = All-nil (λ (cell : Cell). cell ≡ Null)
none_cells at (d ∷ ds) = All-cons (λ (cell : Cell). cell ≡ Null) Null _ refl (none_cells at ds)

-- new columns have no row
pub new_columns : (taken : List Bool) (cs : List ColumnValue) (ds : List Column) (slots : ℕ) → taken ≡ []
    → cs ≡ map (λ (c : Column). let r : ColumnValue = record { column = record c { name = [] }; cells = [] } in r) ds → AreColumns taken cs slots
new_columns taken cs ds slots none made = record {
  within = subst (λ (l : List Bool). length l ≤ slots) (sym none) (omega arith);
  room = λ k d lt. subst (λ (l : List Bool). length l ≤ length (get_or cs k d).cells) (sym none) (omega arith);
  fits = λ at bit. let no : false ≡ true = sym (ap (λ (l : List Bool). get_or l at false) none) ∙ bit in cc;
  bare = λ at bit. subst (λ (l : List ColumnValue). All (λ (cell : Cell). cell ≡ Null) (cells_at at l)) (sym made) (none_cells at ds);
}

-- A range mapped to no row each is as long a list of no rows.
none_from : (n a : ℕ) → map (λ (i : ℕ). let o : Option (List Cell) = None in o) (range_with_len a n) ≡ replicate n None
none_from zero a = refl
none_from (suc n) a = ap (λ (l : List (Option (List Cell))). None ∷ l) (none_from n (a + 1))

-- where there are no bits no slot has a row
pub new_rows : (taken : List Bool) (cs : List ColumnValue) (slots : ℕ) → taken ≡ [] → rows_in taken cs slots ≡ replicate slots None
new_rows taken cs slots none =
    range_same (λ (i : ℕ). let o : Option (List Cell) = None in o) (row_in taken cs) slots (λ i. ap (λ (l : List Bool). cond (get_or l i false) (Some (cells_at i cs)) None) none)
    ∙ none_from slots 0

-- a column is itself with no null behind it
pub longer_itself : (c : ColumnValue) → IsLonger c c
longer_itself c = (0, ap (λ (l : List Cell). let r : ColumnValue = record { column = c.column; cells = l } in r) (sym (append-nil c.cells)))

-- and so is each of several
pub longer_zip : (cs : List ColumnValue) → AllZip IsLonger cs cs
longer_zip [] = tt
longer_zip (c ∷ cs) = (longer_itself c, longer_zip cs)

-- A column that became longer twice became longer.
longer_twice : (a b c : ColumnValue) → IsLonger a b → IsLonger b c → IsLonger a c
longer_twice a b c (m, is) (n, then) = (
  m + n,
  then ∙ ap (λ (v : ColumnValue). let r : ColumnValue = record { column = v.column; cells = v.cells ++ replicate n Null } in r) is
      ∙ ap (λ (l : List Cell). let r : ColumnValue = record { column = a.column; cells = l } in r) (append_assoc a.cells (replicate m Null) (replicate n Null) ∙ ap (λ (l : List Cell). a.cells ++ l) (replicate-append-replicate m n Null)),
)

-- columns that got longer, with one of them longer still
pub longer_set : (cs ds : List ColumnValue) (i : ℕ) (d new : ColumnValue) → AllZip IsLonger cs ds → IsLonger (get_or ds i d) new → AllZip IsLonger cs (slice_set ds i new)
longer_set [] [] i d new zip one = tt
longer_set [] (y ∷ ys) i d new zip one = absurd zip
longer_set (c ∷ cs) [] i d new zip one = absurd zip
longer_set (c ∷ cs) (y ∷ ys) zero d new zip one = (longer_twice c y new zip.0 one, zip.1)
longer_set (c ∷ cs) (y ∷ ys) (suc i) d new zip one = (zip.0, longer_set cs ys i d new zip.1 one)

-- a column more is long
pub longer_next : (to : ℕ) (ds : List ColumnValue) (i : ℕ) (new : ColumnValue) → i < length ds → ((k : ℕ) (d : ColumnValue) → k < i → to ≤ length (get_or ds k d).cells) → to ≤ length new.cells
    → (k : ℕ) (d : ColumnValue) → k < i + 1 → to ≤ length (get_or (slice_set ds i new) k d).cells
longer_next to ds i new lt done one k d below = elim (eqb_tells k i) [
  | inl same ↦ subst (λ (v : ColumnValue). to ≤ length v.cells) (sym (ap (λ n. get_or (slice_set ds i new) n d) same.1 ∙ get_or-set_same ds i new d lt)) one
  | inr other ↦
      let ne : k ≢ i = other.1 in
      let less : k < i = omega (arith, below, ne) in
      subst (λ (v : ColumnValue). to ≤ length v.cells) (sym (get_or-set_other ds i k new d other.1)) (done k d less)
]

-- the bits after they got more, or not
pub extended : {E : Type 0} (r : Result (Unit {0}) E) (bits taken : List Bool) (n : ℕ) → OnOk r (bits ≡ taken ++ replicate n false) → OnErr r (bits ≡ taken)
    → ((i : ℕ) → get_or bits i false ≡ get_or taken i false) × (length bits ≤ length taken + n)
extended (Ok x) bits taken n ok err = (
  (λ i. ap (λ (l : List Bool). get_or l i false) ok ∙ bits-padded taken n i),
  omega (arith, ap (λ (l : List Bool). length l) ok ∙ length-append taken (replicate n false), length-replicate n false),
)
extended (Err e) bits taken n ok err = ((λ i. ap (λ (l : List Bool). get_or l i false) err), omega (arith, ap (λ (l : List Bool). length l) err))

-- new columns are seen without their names
pub new_names : (ds : List Column) → columns_in (map (λ (c : Column). let r : ColumnValue = record { column = record c { name = [] }; cells = [] } in r) ds) ≡ columns_of ds
new_names [] = refl
new_names (d ∷ ds) = ap (λ (l : List Column). unnamed d ∷ l) (new_names ds)

-- a column's cell in a slot is its row's
pub column_cell : (taken : List Bool) (cs : List ColumnValue) (slots column slot : ℕ) (d : ColumnValue) → AreColumns taken cs slots → column < length cs
    → get_or (get_or cs column d).cells slot Null ≡ cell_of column (get_or (rows_in taken cs slots) slot None)
column_cell taken cs slots column slot d are lt =
    cell_there cs column d lt
    ∙ go (get_or taken slot false) refl
    ∙ sym (ap (λ (o : Option (List Cell)). cell_of column o) (row_at taken cs slots slot are))
  where
    cell_there : (cs : List ColumnValue) (k : ℕ) (d : ColumnValue) → k < length cs → get_or (get_or cs k d).cells slot Null ≡ get_or (cells_at slot cs) k Null
    cell_there [] k d lt = absurd (omega (arith, lt))
    cell_there (c ∷ cs) zero d lt = refl
    cell_there (c ∷ cs) (suc k) d lt = cell_there cs k d (omega (arith, lt))

    null_there : (xs : List Cell) (k : ℕ) → All (λ (cell : Cell). cell ≡ Null) xs → get_or xs k Null ≡ Null
    null_there [] k null = refl
    null_there (x ∷ xs) zero null = All-head (λ (cell : Cell). cell ≡ Null) x xs null
    null_there (x ∷ xs) (suc k) null = null_there xs k (All-tail (λ (cell : Cell). cell ≡ Null) x xs null)

    go : (bit : Bool) → get_or taken slot false ≡ bit → get_or (cells_at slot cs) column Null ≡ cell_of column (cond (get_or taken slot false) (Some (cells_at slot cs)) None)
    go true is = sym (ap (λ b. cell_of column (cond b (Some (cells_at slot cs)) None)) is)
    go false is = null_there (cells_at slot cs) column (are.bare slot is) ∙ sym (ap (λ b. cell_of column (cond b (Some (cells_at slot cs)) None)) is)

-- a column that is kept is seen at its place
pub column_there : (cs : List ColumnValue) (k : ℕ) (d : ColumnValue) → k < length cs → slice_get (columns_in cs) k ≡ Some (get_or cs k d).column
column_there [] k d lt = absurd (omega (arith, lt))
column_there (c ∷ cs) zero d lt = refl
column_there (c ∷ cs) (suc k) d lt = column_there cs k d (omega (arith, lt))

-- the first cells of a column are those of the first rows
pub first_cells : (taken : List Bool) (cs : List ColumnValue) (slots column n : ℕ) (d : ColumnValue) → AreColumns taken cs slots → column < length cs → n ≤ length taken
    → take n (get_or cs column d).cells ≡ map (cell_of column) (take n (rows_in taken cs slots))
first_cells taken cs slots column n d are lt room =
    let cells : List Cell = (get_or cs column d).cells in
    let rows : List (Option (List Cell)) = rows_in taken cs slots in
    let many : n ≤ length cells = omega (arith, are.room column d lt, room) in
    let some : n ≤ length rows = omega (arith, are.within, room, rows_long taken cs slots) in
    same_lists (take n cells) (map (cell_of column) (take n rows))
    (length-take-le n cells many ∙ sym (length-map (take n rows) (cell_of column) ∙ length-take-le n rows some))
    (λ k e below.
    let short : k < n = omega (arith, below, length-take-le n cells many) in
    get_or-take n cells k e short ∙ get_or_default cells k e Null (omega (arith, short, many))
    ∙ column_cell taken cs slots column k d are lt
    ∙ sym (get_or-map (cell_of column) (take n rows) k None e (omega (arith, short, length-take-le n rows some))
    ∙ ap (cell_of column) (get_or-take n rows k None short)))

-- cells that are those of rows one by one are those of the first rows
pub cells_of_rows : (cells : List Cell) (rows : List (Option Row)) (column n : ℕ) → n ≤ length cells → n ≤ length rows
    → ((slot : ℕ) → get_or cells slot Null ≡ cell_of column (get_or rows slot None)) → take n cells ≡ map (cell_of column) (take n rows)
cells_of_rows cells rows column n many some each =
    same_lists (take n cells) (map (cell_of column) (take n rows))
    (length-take-le n cells many ∙ sym (length-map (take n rows) (cell_of column) ∙ length-take-le n rows some))
    (λ k e below.
    let short : k < n = omega (arith, below, length-take-le n cells many) in
    get_or-take n cells k e short ∙ get_or_default cells k e Null (omega (arith, short, many))
    ∙ each k
    ∙ sym (get_or-map (cell_of column) (take n rows) k None e (omega (arith, short, length-take-le n rows some))
    ∙ ap (cell_of column) (get_or-take n rows k None short)))

-- the first bits tell which of the first slots have a row
pub first_bits : (taken : List Bool) (cs : List ColumnValue) (slots n : ℕ) → AreColumns taken cs slots → n ≤ length taken
    → take n taken ≡ map is_some (take n (rows_in taken cs slots))
first_bits taken cs slots n are room =
    let rows : List (Option (List Cell)) = rows_in taken cs slots in
    let some : n ≤ length rows = omega (arith, are.within, room, rows_long taken cs slots) in
    same_lists (take n taken) (map is_some (take n rows))
    (length-take-le n taken room ∙ sym (length-map (take n rows) is_some ∙ length-take-le n rows some))
    (λ k e below.
    let short : k < n = omega (arith, below, length-take-le n taken room) in
    get_or-take n taken k e short ∙ get_or_default taken k e false (omega (arith, short, room))
    ∙ sym (bit_is (get_or taken k false) (cells_at k cs)) ∙ ap is_some (sym (row_at taken cs slots k are))
    ∙ sym (get_or-map is_some (take n rows) k None e (omega (arith, short, length-take-le n rows some))
    ∙ ap is_some (get_or-take n rows k None short)))
  where
    bit_is : (bit : Bool) (row : List Cell) → is_some (cond bit (Some row) None) ≡ bit
    bit_is true row = refl
    bit_is false row = refl
