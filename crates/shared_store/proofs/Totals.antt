-- The numbers of a column, in rows and in the cells of a block's slots.
use Rattle.std.proofs.Common.{◌≡◌, ℕ, zero, suc, ◌-◌, ◌*◌, ◌^◌, ◌<◌, ◌≤◌, Bool, true, false, cond, ◌&&◌, ◌||◌, List, [], ◌∷◌, Option, None, Some, length, map, take, get_or, ℤ, pos, negsuc, refl, sym, ap, subst, ◌∙◌, arith}
use Rattle.std.specs.Prelude.{All, IsSome, IsTrue, filter, flat_map, nat_le, option_and_then, option_to_list, slice_get}
use Rattle.std.specs.List.{AllZip, cons_option}
use Rattle.std.specs.Option.{option_map_or}
use Rattle.std.specs.Int.{Width, byte_len}
use Rattle.std.proofs.lemmas.Bool.{and_parts}
use Rattle.std.proofs.lemmas.Int.{ints}
use Rattle.std.proofs.lemmas.List.{length-map}
use lib.Seq.{length-take-le}
use Rattle.std.proofs.lemmas.List.Elements.{All-cons, All-head, All-nil, All-tail}
use Rattle.std.proofs.lemmas.List.Folds.{flat_map-map}
use Rattle.arrow_spec.specs.Arrays.{data_buffers, fixed, layout_in, number_of}
use Rattle.arrow_spec.specs.Bytes.{number_bytes}
use Rattle.block_columns.proofs.Fitted.{row_each}
use Rattle.block_columns.proofs.Slots.{fits_slot}
use Rattle.block_columns.specs.Columns.{CellFits, cell_of}
use Rattle.block_spec.specs.Slots.{Row}
use Rattle.cell_model.specs.Kinds.{values_of}
use Rattle.cell_model.specs.Rows.{Fits}
use Rattle.cell_model.specs.Values.{byte_length, is_between, is_integer_of, is_null, is_value_in, is_value_of, most_bytes_of}
use Rattle.cell_model.specs.Widths.{number_width}
use Rattle.cell_model.specs.declared.cell.Cell.{Cell}
use Rattle.cell_model.specs.declared.cell.Cell.TheVariants.{Null, Num, Truth, Text, Blob}
use Rattle.cell_model.specs.declared.column.Column.{Column}
use Rattle.cell_model.specs.declared.values.Values.{Values}
use Rattle.cell_model.specs.declared.values.Values.TheVariants as values
use Rattle.isolation_spec.specs.Contents.{number_between}
use Rattle.lane_filter.proofs.Cells.{column_long}
use Rattle.lane_filter.proofs.Ends.{between_true, ends_of, number_parts}
use Rattle.lane_filter.specs.Totals.{IsNumber, is_number_between, is_slot_of, numbers_among, values_in, width_of}
use Rattle.lane_filter.specs.Totals.{numbers_between as numbers_in_cells}
use Rattle.lane_filter.specs.declared.numbers.Numbers.{Numbers}
use Rattle.lane_filter.specs.declared.numbers.Numbers.TheVariants.{Signed, Unsigned}
use Rattle.cell_model.specs.declared.table.TableDecl.{TableDecl}
use Rattle.workload_spec.specs.Valid.{are_bounds_in, are_numbers, is_total}
use Rattle.shared_store.specs.Totalling.{AreSmall, IsWanted, are_wanted, wanted_in}
use Rattle.shared_store.specs.declared.totalling.Wanted.{Wanted}

-- ---- what is wanted

-- the values that are some numbers
pub values_are : (its : Values) (numbers : Numbers) → numbers_among its ≡ Some numbers → its ≡ values_in numbers
values_are (values.Signed width) numbers is = let same : Signed width ≡ numbers = cc is in ap values_in same
values_are (values.Unsigned width) numbers is = let same : Unsigned width ≡ numbers = cc is in ap values_in same
values_are values.Truths numbers is = absurd (let never : ⊥ = cc is in never)
values_are (values.Texts width) numbers is = absurd (let never : ⊥ = cc is in never)
values_are (values.Blobs width) numbers is = absurd (let never : ⊥ = cc is in never)
values_are (values.Strips bytes) numbers is = absurd (let never : ⊥ = cc is in never)

-- the element at a place that there is
got : {X : Type 0} (xs : List X) (i : ℕ) (x y : X) → slice_get xs i ≡ Some x → get_or xs i y ≡ x
got [] i x y is = absurd (let never : ⊥ = cc is in never)
got (z ∷ zs) zero x y is = let same : z ≡ x = cc is in same
got (z ∷ zs) (suc i) x y is = got zs i x y is

-- a column of numbers and two of them are what a total wants
pub wanted_is : (columns : List Column) (column : ℕ) (numbers : Numbers) (low high x y : ℤ) (its : Column) → are_wanted columns column low high ≡ true
    → its ≡ get_or columns column its → numbers_among (values_of its.kind) ≡ Some numbers → x ≡ low → y ≡ high
    → IsWanted columns (record { column = column; numbers = numbers; low = x; high = y })
wanted_is columns column numbers low high x y its is at among from to = go (slice_get columns column) refl is
  where
    go : (o : Option Column) → slice_get columns column ≡ o → option_map_or (λ its. are_bounds_in its low high) o false ≡ true
        → IsWanted columns (record { column = column; numbers = numbers; low = x; high = y })
    go None there h = absurd (let never : ⊥ = cc h in never)
    go (Some d) there h =
        let same : its ≡ d = at ∙ got columns column d its there in
        let all = and_parts (are_numbers (values_of d.kind) && is_integer_of d.kind low) (is_integer_of d.kind high) h in
        let first = and_parts (are_numbers (values_of d.kind)) (is_integer_of d.kind low) all.0 in
        let kind : values_of d.kind ≡ values_in numbers = ap (λ (c : Column). values_of c.kind) (sym same) ∙ values_are (values_of its.kind) numbers among in
        record {
          its = d;
          column = there;
          numbers = ap (λ (c : Column). numbers_among (values_of c.kind)) (sym same) ∙ among;
          low = subst (IsNumber numbers) (sym from) (sym (ap (λ v. Rattle.cell_model.specs.Values.is_integer_in v low) kind) ∙ first.1);
          high = subst (IsNumber numbers) (sym to) (sym (ap (λ v. Rattle.cell_model.specs.Values.is_integer_in v high) kind) ∙ all.1);
        }

-- its bounds have at most 64 bits
pub wanted_small : (columns : List Column) (wanted : Wanted) → IsWanted columns wanted → AreSmall wanted
wanted_small columns wanted is =
    let ends = ends_of wanted.numbers in
    let low = number_parts wanted.numbers wanted.low is.low in
    let high = number_parts wanted.numbers wanted.high is.high in (
      between_true (negsuc (2 ^ 63 - 1)) (pos (2 ^ 64 - 1)) wanted.low (omega (arith, ints, ends.low, low.0)) (omega (arith, ints, ends.high, low.1)),
      between_true (negsuc (2 ^ 63 - 1)) (pos (2 ^ 64 - 1)) wanted.high (omega (arith, ints, ends.low, high.0)) (omega (arith, ints, ends.high, high.1)),
    )

-- a total is asked of a table that there is
pub has_table : (tables : List TableDecl) (table column : ℕ) (low high : ℤ) → is_total tables table column low high ≡ true → table < length tables
has_table tables table column low high is = go tables table is
  where
    go : (ts : List TableDecl) (t : ℕ) → option_map_or (λ (decl : TableDecl). option_map_or (λ its. are_bounds_in its low high) (slice_get decl.schema column) false) (slice_get ts t) false ≡ true → t < length ts
    go [] t h = absurd (let never : ⊥ = cc h in never)
    go (x ∷ xs) zero h = omega arith
    go (x ∷ xs) (suc t) h = let less = go xs t h in omega (arith, less)

-- ---- cells

-- the cell of a column in a row whose cells fit
at_column : (columns : List Column) (row : Row) (i : ℕ) (its : Column) → AllZip CellFits columns row → slice_get columns i ≡ Some its
    → (cell : Cell) × (slice_get row i ≡ Some cell) × CellFits its cell
at_column [] row i its zip is = absurd (let never : ⊥ = cc is in never)
at_column (c ∷ cs) [] i its zip is = absurd zip
at_column (c ∷ cs) (x ∷ xs) zero its zip is = let same : c ≡ its = cc is in (x, refl, subst (λ d. CellFits d x) same zip.0)
at_column (c ∷ cs) (x ∷ xs) (suc i) its zip is = at_column cs xs i its zip.1 is

module _ (columns : List Column) (wanted : Wanted) (w : IsWanted columns wanted) where
  abbrev slot_is : Cell → Type 0
  slot_is cell = is_slot_of wanted.numbers cell ≡ true

  -- a cell that fits the column is a null or one of the numbers
  slot_of : (cell : Cell) → CellFits w.its cell → slot_is cell
  slot_of cell fits =
      go (is_null cell) (is_value_of w.its.kind cell) (nat_le (byte_length cell) (most_bytes_of w.its.kind)) (is_value_in (values_in wanted.numbers) cell)
      (ap (λ v. is_value_in v cell) (values_are (values_of w.its.kind) wanted.numbers w.numbers)) (fits_slot w.its cell fits)
    where
      go : (none value short number : Bool) → value ≡ number → (none || (value && short)) ≡ true → (none || number) ≡ true
      go true value short number same h = refl
      go false true short number same h = sym same
      go false false short number same h = absurd (let never : ⊥ = cc h in never)

  -- the cell of the column in a row that fits
  cell_in_row : (row : Row) → Fits columns row → (cell : Cell) × (slice_get row wanted.column ≡ Some cell) × slot_is cell
  cell_in_row row fits =
      let at = at_column columns row wanted.column w.its (row_each columns row fits) w.column in
      (at.0, at.1, slot_of at.0 at.2)

  -- Texts, bytes and truth values are none of the numbers.
  no_truth : (truth : Bool) → slot_is (Truth truth) → ⊥
  no_truth truth = go wanted.numbers
    where
      go : (numbers : Numbers) → is_slot_of numbers (Truth truth) ≡ true → ⊥
      go (Signed width) h = cc h
      go (Unsigned width) h = cc h

  no_text : (text : List ℕ) → slot_is (Text text) → ⊥
  no_text text = go wanted.numbers
    where
      go : (numbers : Numbers) → is_slot_of numbers (Text text) ≡ true → ⊥
      go (Signed width) h = cc h
      go (Unsigned width) h = cc h

  no_blob : (bytes : List ℕ) → slot_is (Blob bytes) → ⊥
  no_blob bytes = go wanted.numbers
    where
      go : (numbers : Numbers) → is_slot_of numbers (Blob bytes) ≡ true → ⊥
      go (Signed width) h = cc h
      go (Unsigned width) h = cc h

  -- the cells of the column in slots
  abbrev pub cells_of : List (Option Row) → List Cell
  cells_of slots = map (cell_of wanted.column) slots

  abbrev pub rows_of_slots : List (Option Row) → List Row
  rows_of_slots slots = flat_map (λ slot. option_to_list slot) slots

  -- One cell more has its number in both.
  one_cell : (cells : List Cell) (rest : List ℤ) → numbers_in_cells wanted.low wanted.high cells ≡ rest → (cell : Cell) → slot_is cell
      → numbers_in_cells wanted.low wanted.high (cell ∷ cells) ≡ cons_option (number_between wanted.low wanted.high cell) rest
  one_cell cells rest same Null is = same
  one_cell cells rest same (Num number) is = go (is_between wanted.low wanted.high number)
    where
      go : (b : Bool) → map number_of (cond b (Num number ∷ filter (is_number_between wanted.low wanted.high) cells) (filter (is_number_between wanted.low wanted.high) cells))
          ≡ cons_option (cond b (Some number) None) rest
      go true = ap (λ ns. number ∷ ns) same
      go false = same
  one_cell cells rest same (Truth truth) is = absurd (no_truth truth is)
  one_cell cells rest same (Text text) is = absurd (no_text text is)
  one_cell cells rest same (Blob bytes) is = absurd (no_blob bytes is)

  -- The numbers in the column's cells are those of the rows.
  pub numbers_same : (slots : List (Option Row)) → All (Fits columns) (rows_of_slots slots)
      → numbers_in_cells wanted.low wanted.high (cells_of slots) ≡ wanted_in wanted (rows_of_slots slots)
  numbers_same [] fits = refl
  numbers_same (None ∷ slots) fits = numbers_same slots fits
  numbers_same (Some row ∷ slots) fits =
      let one = cell_in_row row (All-head (Fits columns) row (rows_of_slots slots) fits) in
      let rest = numbers_same slots (All-tail (Fits columns) row (rows_of_slots slots) fits) in
      ap (λ cell. numbers_in_cells wanted.low wanted.high (cell ∷ cells_of slots)) (got row wanted.column one.0 Null one.1)
      ∙ one_cell (cells_of slots) (wanted_in wanted (rows_of_slots slots)) rest one.0 one.2
      ∙ ap (λ o. cons_option (option_and_then (number_between wanted.low wanted.high) o) (wanted_in wanted (rows_of_slots slots))) (sym one.1)

  pub slots_are : (slots : List (Option Row)) → All (Fits columns) (rows_of_slots slots) → All (λ cell. IsTrue (is_slot_of wanted.numbers cell)) (cells_of slots)
  slots_are [] fits = All-nil (λ cell. IsTrue (is_slot_of wanted.numbers cell))
  slots_are (None ∷ slots) fits = All-cons (λ cell. IsTrue (is_slot_of wanted.numbers cell)) Null (cells_of slots) refl (slots_are slots fits)
  slots_are (Some row ∷ slots) fits =
      let one = cell_in_row row (All-head (Fits columns) row (rows_of_slots slots) fits) in
      All-cons (λ cell. IsTrue (is_slot_of wanted.numbers cell)) (cell_of wanted.column (Some row)) (cells_of slots) (subst slot_is (sym (got row wanted.column one.0 Null one.1)) one.2) (slots_are slots (All-tail (Fits columns) row (rows_of_slots slots) fits))

-- ---- the bytes of a column

-- numbers lie one after another
laid : (numbers : Numbers) → layout_in (values_in numbers) ≡ fixed (number_width (width_of numbers))
laid (Signed width) = refl
laid (Unsigned width) = refl

-- Slots whose rows there are are no more than there are slots.
pub held_within : (n : ℕ) (slots : List (Option Row)) → ((slot : ℕ) → slot < n → IsSome (get_or slots slot None)) → n ≤ length slots
held_within zero slots held = omega arith
held_within (suc n) [] held = absurd (let never : false ≡ true = held 0 (omega arith) in let no : ⊥ = cc never in no)
held_within (suc n) (slot ∷ slots) held = let rest = held_within n slots (λ i less. held (suc i) (omega (arith, less))) in omega (arith, rest)

-- The bytes of a column of a kind of numbers are the buffer of its cells' values.
pub bytes_are : (numbers : Numbers) (kind : Values) (column : ℕ) (slots : List (Option Row)) (bytes : List ℕ) → numbers_among kind ≡ Some numbers
    → ((width : Width) → layout_in kind ≡ fixed width → bytes ≡ flat_map (λ row. number_bytes width (number_of (cell_of column row))) slots)
    → bytes ∷ [] ≡ data_buffers (layout_in (values_in numbers)) (map (cell_of column) slots)
bytes_are numbers kind column slots bytes among are =
    let width = number_width (width_of numbers) in
    ap (λ bs. bs ∷ []) (are width (ap layout_in (values_are kind numbers among) ∙ laid numbers)
    ∙ sym (flat_map-map (λ cell. number_bytes width (number_of cell)) (cell_of column) slots))
    ∙ ap (λ layout. data_buffers layout (map (cell_of column) slots)) (sym (laid numbers))

-- a column has a cell for each slot
pub cells_long : (column n : ℕ) (slots : List (Option Row)) → ((slot : ℕ) → slot < n → IsSome (get_or slots slot None)) → length (map (cell_of column) (take n slots)) ≡ n
cells_long column n slots held =
    let within = held_within n slots held in
    length-map (take n slots) (cell_of column) ∙ length-take-le n slots within

-- They are long enough for as many slots.
pub bytes_long : (numbers : Numbers) (kind : Values) (column n : ℕ) (slots : List (Option Row)) (bytes : List ℕ) → numbers_among kind ≡ Some numbers
    → ((slot : ℕ) → slot < n → IsSome (get_or slots slot None))
    → ((width : Width) → layout_in kind ≡ fixed width → bytes ≡ flat_map (λ row. number_bytes width (number_of (cell_of column row))) (take n slots))
    → n * byte_len (number_width (width_of numbers)) ≤ length bytes
bytes_long numbers kind column n slots bytes among held are =
    let long = column_long numbers (map (cell_of column) (take n slots)) bytes (bytes_are numbers kind column (take n slots) bytes among are) in
    let cells = cells_long column n slots held in
    let same = ap (λ k. k * byte_len (number_width (width_of numbers))) cells in
    omega (arith, long, same)
