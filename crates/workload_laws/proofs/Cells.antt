-- Cells that are read are their words, and fit their columns.
use Rattle.std.proofs.Common.{◌≡◌, ℕ, ◌+◌, Bool, true, false, List, [], ◌∷◌, length, map, drop, refl, ◌∙◌, subst, arith}
use Rattle.std.specs.Prelude.{◌==◌, not, nat_lt, Option, None, Some, option_and_then, is_none, if◌then◌else◌, ℤ, Ok}
use Rattle.std.specs.Option.{option_map_or}
use Rattle.std.specs.List.{list_all}
use Rattle.std.proofs.lemmas.Bool.{eq-eqb, le-ltb, and_parts}
use Rattle.cell_model.specs.declared.cell.Cell.{Cell}
use Rattle.cell_model.specs.declared.cell.Cell.TheVariants.{Num}
use Rattle.cell_model.specs.declared.kind.Kind.{Kind}
use Rattle.cell_model.specs.declared.kind.Kind.TheVariants as kind
use Rattle.cell_model.specs.declared.column.Column.{Column}
use Rattle.cell_model.specs.declared.row.RowFault.{RowFault}
use Rattle.cell_model.specs.declared.row.RowFault.TheVariants.{Arity, NullAt, RangeAt, LongAt}
use Rattle.cell_model.specs.Rows.{cell_fault, first_fault, fits}
use Rattle.cell_model.specs.Values.{is_value_of, is_null, byte_length, most_bytes_of, is_integer_of}
use Rattle.cell_model.specs.Schemas.{is_i64, is_key, begins_with_key}
use Rattle.workload_spec.specs.declared.script.Cause.TheVariants as cause
use Rattle.workload_spec.specs.Words.{cell_text}
use Rattle.workload_spec.specs.Reading.{spelled, cell_in, cell_of}
use Rattle.workload_spec.specs.Valid.{is_key_number}
use Rattle.workload_spec.specs.Grammar.{or_cause, cells_of}
use Rattle.workload_laws.specs.Bytes.{has_only_bytes}
use Rattle.workload_laws.proofs.BlobBytes.{cell_bytes}
use Rattle.workload_laws.proofs.Results.{step, some_of, spelled_as}
use Rattle.workload_laws.proofs.Lists.{joined}

-- A cell that is read behind a test for faults is itself, without a fault.
kept_by : (fault : Option RowFault) (cell read : Cell) → option_map_or (λ f. None) fault (Some cell) ≡ Some read → (cell ≡ read) × (is_none fault ≡ true)
kept_by None cell read e = (cc, refl)
kept_by (Some f) cell read e = absurd cc

-- a cell without a fault in its column that the word spells
pub record ReadsCell (column : Column) (word : List ℕ) (cell : Cell) : Type 0 where
  pub text : cell_text cell ≡ word
  pub fits : is_none (cell_fault 0 column cell) ≡ true
  pub bytes : has_only_bytes cell ≡ true

-- A cell that its word spells, and that is read where it fits, is its word and fits.
fitting : (column : Column) (word : List ℕ) (o : Option Cell) (read : Cell) → ((cell : Cell) → o ≡ Some cell → (cell_text cell ≡ word) × (has_only_bytes cell ≡ true))
    → option_and_then (λ cell. option_map_or (λ fault. None) (cell_fault 0 column cell) (Some cell)) o ≡ Some read → ReadsCell column word read
fitting column word None read is e = absurd cc
fitting column word (Some cell) read is e =
    let k = kept_by (cell_fault 0 column cell) cell read e in
    subst (ReadsCell column word) k.0 (record { text = (is cell refl).0; fits = k.1; bytes = (is cell refl).1 })

-- a cell that is read is its word, and fits the column
pub cell_is : (column : Column) (word : List ℕ) (cell : Cell) → cell_of column word ≡ Some cell → ReadsCell column word cell
cell_is column word cell e = fitting column word (spelled cell_text word (cell_in column word)) cell (λ c is. let text = spelled_as cell_text word (cell_in column word) c is in (text, cell_bytes column word c is text)) e

-- a cell's fault is one whatever the number of its column
fault_by : (null nullable out long : Bool) (at : ℕ) → is_none (if null then (if nullable then None else Some (NullAt at)) else if out then Some (RangeAt at) else if long then Some (LongAt at) else None)
    ≡ is_none (if null then (if nullable then None else Some (NullAt 0)) else if out then Some (RangeAt 0) else if long then Some (LongAt 0) else None)
fault_by true true out long at = refl
fault_by true false out long at = refl
fault_by false nullable true long at = refl
fault_by false nullable false true at = refl
fault_by false nullable false false at = refl

-- the number of a column changes nothing about whether a cell has a fault
pub fault_at : (column : Column) (cell : Cell) (at : ℕ) → is_none (cell_fault at column cell) ≡ is_none (cell_fault 0 column cell)
fault_at column cell at = fault_by (is_null cell) column.nullable (not (is_value_of column.kind cell)) (nat_lt (most_bytes_of column.kind) (byte_length cell)) at

-- Where neither the first cell nor the rest has a fault, there is none.
first_none : (b : Bool) (here rest : Option RowFault) → is_none here ≡ b → b ≡ true → is_none rest ≡ true → is_none (if b then rest else here) ≡ true
first_none true here rest e f later = later
first_none false here rest e f later = absurd cc

-- cells of columns that their words spell
pub record ReadsCells (columns : List Column) (words : List (List ℕ)) (cells : List Cell) : Type 0 where
  pub text : map cell_text cells ≡ words
  pub many : length cells ≡ length columns
  pub fit : (at : ℕ) → is_none (first_fault at columns cells) ≡ true
  pub bytes : list_all has_only_bytes cells ≡ true

-- cells that are read are their words, and fit the columns
pub cells_are : (columns : List Column) (words : List (List ℕ)) (cells : List Cell) → length columns ≡ length words → cells_of columns words ≡ Ok cells → ReadsCells columns words cells
cells_are [] [] cells many e = let same : [] ≡ cells = cc in subst (ReadsCells [] []) same (record { text = refl; many = refl; fit = λ at. refl; bytes = refl })
cells_are [] (word ∷ words) cells many e = absurd (omega (arith, many))
cells_are (column ∷ columns) [] cells many e = absurd (omega (arith, many))
cells_are (column ∷ columns) (word ∷ words) cells many e =
    step (or_cause cause.Cell (cell_of column word)) _ cells e (λ cell is e1.
    step (cells_of columns words) _ cells e1 (λ rest are e2.
    let same : (cell ∷ rest) ≡ cells = cc in
    let one = cell_is column word cell (some_of cause.Cell (cell_of column word) cell is) in
    let all = cells_are columns words rest (omega (arith, many)) are in
    subst (ReadsCells (column ∷ columns) (word ∷ words)) same (record {
      text = rw (one.text, all.text) refl;
      many = omega (arith, all.many);
      fit = λ at. first_none (is_none (cell_fault at column cell)) (cell_fault at column cell) (first_fault (at + 1) columns rest) refl (fault_at column cell at ∙ one.fits) (all.fit (at + 1));
      bytes = joined one.bytes all.bytes;
    })))

-- a kind that is tested to be `i64` is
pub i64_is : (k : Kind) → is_i64 k ≡ true → k ≡ kind.I64
i64_is kind.I64 e = refl
i64_is _ e = absurd cc

-- A number that a key may be fits the column of the key.
key_fits : (column : Column) (key : ℤ) → is_key column ≡ true → is_key_number key ≡ true → is_none (cell_fault 0 column (Num key)) ≡ true
key_fits column key is number =
    let k : column.kind ≡ kind.I64 = i64_is column.kind (and_parts _ (is_i64 column.kind) (and_parts _ (not column.nullable) is).0).1 in
    let v : is_integer_of column.kind key ≡ true = rw k number in
    rw (v, le-ltb (most_bytes_of column.kind) 0 (omega arith)) refl

-- Where there are as many cells as columns and no fault, the row has none.
row_by : (b : Bool) (fault : Option RowFault) → b ≡ true → is_none fault ≡ true → is_none (if b then fault else Some Arity) ≡ true
row_by true fault e f = f
row_by false fault e f = absurd cc

-- a row whose key is a number of 64 bits, and whose other cells fit, fits a table's columns
pub row_fits : (columns : List Column) (words : List (List ℕ)) (key : ℤ) (cells : List Cell) → begins_with_key columns ≡ true → is_key_number key ≡ true → ReadsCells (drop 1 columns) words cells → fits columns (Num key ∷ cells) ≡ true
row_fits [] words key cells begins number all = absurd cc
row_fits (column ∷ columns) words key cells begins number all =
    row_by (length (Num key ∷ cells) == length (column ∷ columns)) (first_fault 0 (column ∷ columns) (Num key ∷ cells)) (eq-eqb _ _ (omega (arith, all.many)))
    (first_none (is_none (cell_fault 0 column (Num key))) (cell_fault 0 column (Num key)) (first_fault (0 + 1) columns cells) refl (key_fits column key begins number) (all.fit (0 + 1)))
