-- A row that fits columns which begin with the key has a key.
use Rattle.std.proofs.Common.{◌≡◌, ◌∙◌, Bool, true, false, not, ◌&&◌, cond, List, [], ◌∷◌, Option, None, Some, refl, sym, ap, length, eqb}
use Rattle.std.specs.Prelude.{is_none}
use Rattle.cell_model.specs.declared.cell.Cell.{Cell}
use Rattle.cell_model.specs.declared.cell.Cell.TheVariants.{Null, Num, Truth, Text, Blob}
use Rattle.cell_model.specs.declared.column.Column.{Column}
use Rattle.cell_model.specs.declared.kind.Kind.{Kind}
use Rattle.cell_model.specs.declared.kind.Kind.TheVariants as kind
use Rattle.cell_model.specs.declared.row.RowFault.{RowFault}
use Rattle.cell_model.specs.declared.row.RowFault.TheVariants.{Arity, NullAt, RangeAt}
use Rattle.cell_model.specs.Rows.{Fits, cell_fault, first_fault}
use Rattle.cell_model.specs.Schemas.{begins_with_key, is_i64}
use Rattle.cell_model.specs.Values.{is_value_of}
use Rattle.block_spec.specs.Slots.{Row}
use Rattle.block_body.specs.Keys.{HasKey}

-- A kind that is tested to be of signed integers of 64 bits is that kind.
i64_is : (k : Kind) → is_i64 k ≡ true → k ≡ kind.I64
i64_is kind.I8 is = cc
i64_is kind.I16 is = cc
i64_is kind.I32 is = cc
i64_is kind.I64 is = refl
i64_is kind.U8 is = cc
i64_is kind.U16 is = cc
i64_is kind.U32 is = cc
i64_is kind.U64 is = cc
i64_is kind.Bool is = cc
i64_is kind.Utf8 is = cc
i64_is kind.Binary is = cc
i64_is kind.LargeUtf8 is = cc
i64_is kind.LargeBinary is = cc
i64_is (kind.Fixed bytes) is = cc
i64_is kind.Date is = cc

-- Where neither a first fault nor one behind it is found, the first is none.
first_none : (a rest : Option RowFault) → cond (is_none a) rest a ≡ None → a ≡ None
first_none None rest is = refl
first_none (Some fault) rest is = cc

-- Where a row has no fault, there is none of its cells.
same_length : (b : Bool) (fault : Option RowFault) → cond b fault (Some Arity) ≡ None → fault ≡ None
same_length true fault is = is
same_length false fault is = cc

-- A row without a fault has a key in its range.
in_range : (b : Bool) (rest : Option RowFault) → cond (not b) (Some (RangeAt 0)) rest ≡ None → b ≡ true
in_range true rest is = refl
in_range false rest is = cc

-- A null in a column that takes none is a fault.
not_null : (nullable : Bool) → not nullable ≡ true → cond nullable None (Some (NullAt 0)) ≡ None → ⊥
not_null true not is = let never : false ≡ true = not in cc
not_null false not is = cc

-- A row that begins with a signed integer of 64 bits has a key.
value_key : (k : Kind) (cell : Cell) (cells : Row) → k ≡ kind.I64 → is_value_of k cell ≡ true → HasKey (cell ∷ cells)
value_key k cell cells is value = go cell (ap (λ k. is_value_of k cell) (sym is) ∙ value)
  where
    go : (cell : Cell) → is_value_of kind.I64 cell ≡ true → HasKey (cell ∷ cells)
    go Null value = cc
    go (Num n) value = value
    go (Truth b) value = cc
    go (Text t) value = cc
    go (Blob b) value = cc

-- The last two of three that are all true.
parts : (a b c : Bool) → (a && b && c) ≡ true → (b ≡ true) × (c ≡ true)
parts true true true is = (refl, refl)
parts true true false is = cc
parts true false c is = cc
parts false b c is = cc

-- A row whose first cell fits a column of keys has a key.
cell_key : (column : Column) (cell : Cell) (cells : Row) → is_i64 column.kind ≡ true → not column.nullable ≡ true → cell_fault 0 column cell ≡ None → HasKey (cell ∷ cells)
cell_key column Null cells i64 set fault = absurd (not_null column.nullable set fault)
cell_key column (Num n) cells i64 set fault = value_key column.kind (Num n) cells (i64_is column.kind i64) (in_range (is_value_of column.kind (Num n)) _ fault)
cell_key column (Truth b) cells i64 set fault = value_key column.kind (Truth b) cells (i64_is column.kind i64) (in_range (is_value_of column.kind (Truth b)) _ fault)
cell_key column (Text t) cells i64 set fault = value_key column.kind (Text t) cells (i64_is column.kind i64) (in_range (is_value_of column.kind (Text t)) _ fault)
cell_key column (Blob b) cells i64 set fault = value_key column.kind (Blob b) cells (i64_is column.kind i64) (in_range (is_value_of column.kind (Blob b)) _ fault)

-- A row that fits columns which begin with the key has a key.
pub fits-has_key : (columns : List Column) (row : Row) → begins_with_key columns ≡ true → Fits columns row → HasKey row
fits-has_key [] row begins fits = cc
fits-has_key (column ∷ columns) [] begins fits = cc
fits-has_key (column ∷ columns) (cell ∷ cells) begins fits =
    let key = parts _ (is_i64 column.kind) (not column.nullable) begins in
    cell_key column cell cells key.0 key.1
    (first_none (cell_fault 0 column cell) (first_fault 1 columns cells)
    (same_length (eqb (length (cell ∷ cells)) (length (column ∷ columns))) (first_fault 0 (column ∷ columns) (cell ∷ cells)) fits))
