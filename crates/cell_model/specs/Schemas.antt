-- Which columns are a table's, and how many rows of them stand in a block of 2^20 bytes.
use Rattle.std.specs.Prelude.{◌≡◌, ℕ, ◌+◌, ◌*◌, ◌/◌, ◌^◌, ◌≤◌, Bool, true, false, ◌&&◌, not, min}
use Rattle.std.specs.Prelude.{List, [], ◌∷◌, length, nat_lt, if◌then◌else◌, Option, None, Some}
use Rattle.std.specs.Prelude.{position, option_map, is_some, bytes_eq, codes, sum_by, All, Result}
use Rattle.std.specs.Prelude.{Ok, Err}
use Rattle.std.specs.Str.{IsUtf8}
use Rattle.cell_model.specs.Kinds.{bits_in, has_width, values_of}
use Rattle.cell_model.specs.Widths.{most_bytes}
use Rattle.cell_model.specs.declared.kind.Kind.{Kind}
use Rattle.cell_model.specs.declared.kind.Kind.TheVariants as kind
use Rattle.cell_model.specs.declared.column.Column.{Column}
use Rattle.cell_model.specs.declared.schema.SchemaFault.{SchemaFault}
use Rattle.cell_model.specs.declared.schema.SchemaFault.TheVariants.{NoKey, TooMany, TwoNames}

abbrev pub is_i64 : Kind → Bool
is_i64 kind.I64 = true
is_i64 _ = false

-- the column is the key: its name is `key`, its kind I64, and it is not nullable
abbrev pub is_key : Column → Bool
is_key column = bytes_eq column.name (codes "key") && is_i64 column.kind && not column.nullable

-- there is a first column, and it is the key
abbrev pub begins_with_key : List Column → Bool
begins_with_key [] = false
begins_with_key (column ∷ columns) = is_key column

-- the place of the first column of this name
abbrev pub place_of_name : List ℕ → List Column → Option ℕ
place_of_name name columns = position (λ column. bytes_eq column.name name) columns

-- The least pair of columns with one name, the lesser place first, where the columns are counted
-- from `at`.
abbrev pub first_twins : ℕ → List Column → Option (ℕ × ℕ)
first_twins at [] = None
first_twins at (column ∷ columns) =
    if is_some (place_of_name column.name columns)
    then option_map (λ after. (at, at + 1 + after)) (place_of_name column.name columns)
    else first_twins (at + 1) columns

-- the most columns of a table
abbrev pub most_columns : ℕ
most_columns = 32

-- The column's name is UTF-8 of at most 65,535 bytes, and its kind is one that there is: where its
-- values all have equally many bytes, these are 1 to 1,024.
abbrev pub IsName : Column → Type 0
IsName column = IsUtf8 column.name × (length column.name ≤ most_bytes)
    × (has_width (values_of column.kind) ≡ true)

-- Each column's name is a text.
pub record AreNamed (columns : List Column) : Type 0 where
  pub each : All IsName columns

-- The columns are a table's: the key stands first, there are at most 32, no two have one name, and
-- each name is a text.
pub record IsSchema (columns : List Column) : Type 0 where
  pub key : begins_with_key columns ≡ true
  pub few : length columns ≤ most_columns
  pub distinct : first_twins 0 columns ≡ None
  pub named : AreNamed columns

-- how many bits a value of the kind takes in a block
abbrev pub bits_of : Kind → ℕ
bits_of kind = bits_in (values_of kind)

-- how many bits a row takes: one that tells whether the slot has a row, and for each column a
-- validity bit and its value
abbrev pub row_bits : List Column → ℕ
row_bits columns = 1 + sum_by (λ column. 1 + bits_of column.kind) columns

-- The most rows of a block of 2^20 bytes, a multiple of 8, and at most 32,768.
abbrev pub most_slots_of : List Column → ℕ
most_slots_of columns = min (2 ^ 15) (8 * (2 ^ 20 / row_bits columns))

-- Why columns are no table's, the first rule that fails: the key first, at most 32, no two of one
-- name.
abbrev pub schema_fault : List Column → Option SchemaFault
schema_fault columns =
    if not (begins_with_key columns) then Some NoKey
    else if nat_lt most_columns (length columns) then Some (TooMany (length columns))
    else option_map (λ twins. TwoNames twins.0 twins.1) (first_twins 0 columns)

-- The answer for columns with this first fault, if any: Ok exactly where there is none, else the
-- fault.
abbrev pub IsJudgedBy : {A : Type 0} → Result A SchemaFault → Option SchemaFault → Type 0
IsJudgedBy (Ok schema) fault = fault ≡ None
IsJudgedBy (Err stood) fault = fault ≡ Some stood
