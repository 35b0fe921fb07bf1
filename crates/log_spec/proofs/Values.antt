-- Rows that fit their columns: their cells can be told by their texts, and the first is the key.
use Rattle.std.proofs.Common.{◌≡◌, ◌⊎◌, inl, inr, ℕ, suc, ◌+◌, ◌<◌, Bool, true, false, not, cond, eqb, List, [], ◌∷◌, length, drop, length-append, refl, sym, ◌∙◌, ap, arith}
use Rattle.std.specs.Prelude.{ℤ, pos, negsuc, ◌≤ℤ◌, ◌^◌, ◌-◌, ◌≢◌, ◌&&◌, int_le, FitsSigned, Option, None, Some, is_none, nat_lt, bytes_eq, codes}
use Rattle.std.specs.Int.{w32, w64, w128, to_le_bytes}
use Rattle.std.specs.List.{AllByRecursion, AllZip}
use Rattle.std.proofs.lemmas.Int.{ints}
use Rattle.std.proofs.lemmas.Bool.Decides.{eqb_tells}
use Rattle.cell_model.specs.declared.cell.Cell.{Cell}
use Rattle.cell_model.specs.declared.cell.Cell.TheVariants.{Null, Num, Truth, Text, Blob}
use Rattle.cell_model.specs.declared.column.Column.{Column}
use Rattle.cell_model.specs.declared.row.RowFault.{RowFault}
use Rattle.cell_model.specs.declared.row.RowFault.TheVariants.{Arity, NullAt, RangeAt, LongAt}
use Rattle.cell_model.specs.declared.kind.Kind.{Kind}
use Rattle.cell_model.specs.declared.kind.Kind.TheVariants as kind
use Rattle.cell_model.specs.declared.values.Values.{Values}
use Rattle.cell_model.specs.declared.values.Values.TheVariants.{Signed, Unsigned, Truths, Texts, Blobs, Strips}
use Rattle.cell_model.specs.declared.width.NumberWidth.TheVariants as number
use Rattle.cell_model.specs.Kinds.{values_of}
use Rattle.cell_model.specs.Rows.{cell_fault, first_fault, Fits}
use Rattle.cell_model.specs.Values.{byte_length, is_between, is_integer_in, is_integer_of, is_null, is_value_of, most_bytes_of}
use Rattle.cell_model.specs.Schemas.{begins_with_key, is_i64}
use Rattle.isolation_spec.specs.Contents.{key_of}
use Rattle.log_spec.specs.LogText.{cell_text, sized}
use Rattle.log_spec.specs.Told.{IsTold}

-- a number between two of 128 bits has them
between_fits : (low high n : ℤ) → negsuc (2 ^ 127 - 1) ≤ℤ low → high ≤ℤ pos (2 ^ 127 - 1) → is_between low high n ≡ true → FitsSigned w128 n
between_fits low high n above below is = go (int_le low n) (int_le n high) refl refl is
  where
    go : (a b : Bool) → int_le low n ≡ a → int_le n high ≡ b → (a && b) ≡ true → FitsSigned w128 n
    go true true la lb both = grind (arith, ints)
    go true false la lb both = cc
    go false b la lb both = cc

-- an integer of any kind has 128 bits
integer_fits : (values : Values) (n : ℤ) → is_integer_in values n ≡ true → FitsSigned w128 n
integer_fits (Signed number.Bits8) n is = between_fits (negsuc (2 ^ 7 - 1)) (pos (2 ^ 7 - 1)) n (grind (arith, ints)) (grind (arith, ints)) is
integer_fits (Signed number.Bits16) n is = between_fits (negsuc (2 ^ 15 - 1)) (pos (2 ^ 15 - 1)) n (grind (arith, ints)) (grind (arith, ints)) is
integer_fits (Signed number.Bits32) n is = between_fits (negsuc (2 ^ 31 - 1)) (pos (2 ^ 31 - 1)) n (grind (arith, ints)) (grind (arith, ints)) is
integer_fits (Signed number.Bits64) n is = between_fits (negsuc (2 ^ 63 - 1)) (pos (2 ^ 63 - 1)) n (grind (arith, ints)) (grind (arith, ints)) is
integer_fits (Unsigned number.Bits8) n is = between_fits (pos 0) (pos (2 ^ 8 - 1)) n (grind (arith, ints)) (grind (arith, ints)) is
integer_fits (Unsigned number.Bits16) n is = between_fits (pos 0) (pos (2 ^ 16 - 1)) n (grind (arith, ints)) (grind (arith, ints)) is
integer_fits (Unsigned number.Bits32) n is = between_fits (pos 0) (pos (2 ^ 32 - 1)) n (grind (arith, ints)) (grind (arith, ints)) is
integer_fits (Unsigned number.Bits64) n is = between_fits (pos 0) (pos (2 ^ 64 - 1)) n (grind (arith, ints)) (grind (arith, ints)) is
integer_fits Truths n is = cc
integer_fits (Texts width) n is = cc
integer_fits (Blobs width) n is = cc
integer_fits (Strips bytes) n is = cc

-- ---- cells of a row

-- The cell keeps the rules of its column.
abbrev pub CellFits : Column → Cell → Type 0
CellFits column cell = cell_fault 0 column cell ≡ None

-- a cell's fault does not come from its column's number
fault_any : (i j : ℕ) (column : Column) (cell : Cell) → cell_fault i column cell ≡ None → cell_fault j column cell ≡ None
fault_any i j column cell = go (is_null cell) column.nullable (not (is_value_of column.kind cell)) (nat_lt (most_bytes_of column.kind) (byte_length cell))
  where
    go : (null nullable other long : Bool)
        → cond null (cond nullable None (Some (NullAt i))) (cond other (Some (RangeAt i)) (cond long (Some (LongAt i)) None)) ≡ None
        → cond null (cond nullable None (Some (NullAt j))) (cond other (Some (RangeAt j)) (cond long (Some (LongAt j)) None)) ≡ None
    go true true other long h = refl
    go true false other long h = cc
    go false nullable true long h = cc
    go false nullable false true h = cc
    go false nullable false false h = refl

-- where no cell is the first with a fault, each keeps its column's rules
first_each : (at : ℕ) (columns : List Column) (cells : List Cell) → length cells ≡ length columns → first_fault at columns cells ≡ None → AllZip CellFits columns cells
first_each at [] [] long h = tt
first_each at [] (x ∷ xs) long h = absurd (omega (arith, long))
first_each at (c ∷ cs) [] long h = absurd (omega (arith, long))
first_each at (c ∷ cs) (x ∷ xs) long h = go (cell_fault at c x) refl h (λ h. first_each (at + 1) cs xs (omega (arith, long)) h)
  where
    go : (fault : Option RowFault) → cell_fault at c x ≡ fault → cond (is_none fault) (first_fault (at + 1) cs xs) fault ≡ None
        → (first_fault (at + 1) cs xs ≡ None → AllZip CellFits cs xs) → CellFits c x × AllZip CellFits cs xs
    go None is h rest = (fault_any at 0 c x is, rest h)
    go (Some f) is h rest = cc

-- where each cell keeps its column's rules, none is the first with a fault
each_first : (at : ℕ) (columns : List Column) (cells : List Cell) → AllZip CellFits columns cells → first_fault at columns cells ≡ None
each_first at [] [] each = refl
each_first at [] (x ∷ xs) each = absurd each
each_first at (c ∷ cs) [] each = absurd each
each_first at (c ∷ cs) (x ∷ xs) each =
    ap (λ (f : Option RowFault). cond (is_none f) (first_fault (at + 1) cs xs) f) (fault_any 0 at c x each.0) ∙ each_first (at + 1) cs xs each.1

-- a row that fits has a cell for each column, which keeps its rules
pub row_each : (columns : List Column) (row : List Cell) → Fits columns row → AllZip CellFits columns row
row_each columns row fits = go (eqb_tells (length row) (length columns))
  where
    go : ((eqb (length row) (length columns) ≡ true) × (length row ≡ length columns)) ⊎ ((eqb (length row) (length columns) ≡ false) × (length row ≢ length columns)) → AllZip CellFits columns row
    go (inl same) = first_each 0 columns row same.1 (sym (ap (λ b. cond b (first_fault 0 columns row) (Some Arity)) same.0) ∙ fits)
    go (inr other) = let never : Some Arity ≡ None = sym (ap (λ b. cond b (first_fault 0 columns row) (Some Arity)) other.0) ∙ fits in cc

pub zip_length : (columns : List Column) (row : List Cell) → AllZip CellFits columns row → length row ≡ length columns
zip_length [] [] each = refl
zip_length [] (x ∷ xs) each = absurd each
zip_length (c ∷ cs) [] each = absurd each
zip_length (c ∷ cs) (x ∷ xs) each = ap suc (zip_length cs xs each.1)

-- a row with such cells fits
pub each_row : (columns : List Column) (row : List Cell) → AllZip CellFits columns row → Fits columns row
each_row columns row each =
    ap (λ b. cond b (first_fault 0 columns row) (Some Arity)) (eqb_true (length row) (length columns) (zip_length columns row each)) ∙ each_first 0 columns row each
  where
    eqb_true : (a b : ℕ) → a ≡ b → eqb a b ≡ true
    eqb_true a b same = grind arith

-- ---- cells can be told

-- the bytes of a cell are shorter than its text
bytes_short : (bytes : List ℕ) (kind : ℕ) → length (kind ∷ sized bytes) < 2 ^ 32 → length bytes < 2 ^ 32
bytes_short bytes kind short = omega (arith, length-append (to_le_bytes w32 (length bytes)) bytes)

cell_told : (column : Column) (cell : Cell) → CellFits column cell → length (cell_text cell) < 2 ^ 32 → IsTold cell
cell_told column Null fits short = tt
cell_told column (Num n) fits short = go (is_value_of column.kind (Num n)) refl fits
  where
    go : (b : Bool) → is_value_of column.kind (Num n) ≡ b
        → cond (not b) (Some (RangeAt 0)) (cond (nat_lt (most_bytes_of column.kind) 0) (Some (LongAt 0)) None) ≡ None → FitsSigned w128 n
    go true is fits = integer_fits (values_of column.kind) n is
    go false is fits = cc
cell_told column (Truth t) fits short = tt
cell_told column (Text t) fits short = bytes_short t 3 short
cell_told column (Blob b) fits short = bytes_short b 4 short

-- cells that keep their columns' rules can be told, where their texts are short
pub cells_told : (columns : List Column) (cells : List Cell) → AllZip CellFits columns cells → AllByRecursion (λ cell. length (cell_text cell) < 2 ^ 32) cells → AllByRecursion IsTold cells
cells_told [] [] each short = tt
cells_told [] (x ∷ xs) each short = absurd each
cells_told (c ∷ cs) [] each short = tt
cells_told (c ∷ cs) (x ∷ xs) each short = (cell_told c x each.0 short.0, cells_told cs xs each.1 short.1)

-- ---- keys

-- a key has 64 bits
pub key_bits : (n : ℤ) → is_integer_of kind.I64 n ≡ true → FitsSigned w64 n
key_bits n is = go (int_le (negsuc (2 ^ 63 - 1)) n) (int_le n (pos (2 ^ 63 - 1))) refl refl is
  where
    go : (a b : Bool) → int_le (negsuc (2 ^ 63 - 1)) n ≡ a → int_le n (pos (2 ^ 63 - 1)) ≡ b → (a && b) ≡ true → FitsSigned w64 n
    go true true la lb both = grind (arith, ints)
    go true false la lb both = cc
    go false b la lb both = cc

pub i64_is : (k : Kind) → is_i64 k ≡ true → k ≡ kind.I64
i64_is kind.I8 is = cc
i64_is kind.I16 is = cc
i64_is kind.I32 is = cc
i64_is kind.I64 is = refl
i64_is kind.U8 is = cc
i64_is kind.U16 is = cc
i64_is kind.U32 is = cc
i64_is kind.U64 is = cc
i64_is kind.Bool is = cc
i64_is kind.Utf8 is = cc
i64_is kind.Binary is = cc
i64_is kind.LargeUtf8 is = cc
i64_is kind.LargeBinary is = cc
i64_is (kind.Fixed width) is = cc
i64_is kind.Date is = cc

pub parts : (a b c : Bool) → (a && b && c) ≡ true → (b ≡ true) × (c ≡ true)
parts true true true is = (refl, refl)
parts true true false is = cc
parts true false c is = cc
parts false b c is = cc

-- a cell of a column that holds no null and only keys is a number
key_cell : (column : Column) (cell : Cell) (cells : List Cell) → column.kind ≡ kind.I64 → not column.nullable ≡ true → cell_fault 0 column cell ≡ None
    → cell ∷ cells ≡ Num (key_of (cell ∷ cells)) ∷ cells
key_cell column Null cells is set fits = go column.nullable set fits
  where
    go : (b : Bool) → not b ≡ true → cond b None (Some (NullAt 0)) ≡ None → Null ∷ cells ≡ Num (key_of (Null ∷ cells)) ∷ cells
    go true set fits = cc
    go false set fits = cc
key_cell column (Num n) cells is set fits = refl
key_cell column (Truth t) cells is set fits =
    let never : Some (RangeAt 0) ≡ None = sym (ap (λ (k : Kind). cond (not (is_value_of k (Truth t))) (Some (RangeAt 0)) (cond (nat_lt (most_bytes_of k) 0) (Some (LongAt 0)) None)) is) ∙ fits in cc
key_cell column (Text t) cells is set fits =
    let never : Some (RangeAt 0) ≡ None = sym (ap (λ (k : Kind). cond (not (is_value_of k (Text t))) (Some (RangeAt 0)) (cond (nat_lt (most_bytes_of k) (length t)) (Some (LongAt 0)) None)) is) ∙ fits in cc
key_cell column (Blob b) cells is set fits =
    let never : Some (RangeAt 0) ≡ None = sym (ap (λ (k : Kind). cond (not (is_value_of k (Blob b))) (Some (RangeAt 0)) (cond (nat_lt (most_bytes_of k) (length b)) (Some (LongAt 0)) None)) is) ∙ fits in cc

-- a row that fits columns of which the first is the key begins with its key
pub row_keyed : (columns : List Column) (row : List Cell) → begins_with_key columns ≡ true → AllZip CellFits columns row → row ≡ Num (key_of row) ∷ drop 1 row
row_keyed [] row begins each = cc
row_keyed (column ∷ columns) [] begins each = absurd each
row_keyed (column ∷ columns) (cell ∷ cells) begins each = key_cell column cell cells (i64_is column.kind key.0) key.1 each.0
  where
    key : (is_i64 column.kind ≡ true) × (not column.nullable ≡ true)
    key = parts (bytes_eq column.name (codes "key")) (is_i64 column.kind) (not column.nullable) begins

-- the cells behind the key keep the rules of the columns behind it
pub behind_key : (columns : List Column) (row : List Cell) → AllZip CellFits columns row → AllZip CellFits (drop 1 columns) (drop 1 row)
behind_key [] [] each = tt
behind_key [] (x ∷ xs) each = absurd each
behind_key (c ∷ cs) [] each = absurd each
behind_key (c ∷ cs) (x ∷ xs) each = each.1
