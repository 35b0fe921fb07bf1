-- Columns that are read are a table's, and a table's line ends with its limits.
use Rattle.std.proofs.Common.{◌≡◌, ℕ, ◌<◌, ◌≤◌, inl, inr, true, List, [], ◌∷◌, length, refl, arith}
use Rattle.std.specs.Prelude.{◌&&◌, ◌||◌, ◌==◌, is_none, nat_le, nat_lt, Option, None, Some, Ok}
use Rattle.std.specs.List.{list_all, All}
use Rattle.std.specs.Str.{IsAscii}
use Rattle.std.proofs.lemmas.List.Elements.{All-nil, All-cons}
use Rattle.std.proofs.lemmas.Str.{IsUtf8-from_ascii}
use Rattle.std.proofs.lemmas.Bool.{ltb-true, leb-true, le-ltb, eqb-true, and_parts, or_cases}
use Rattle.std.proofs.lemmas.Str.Ascii.{IsAscii-cons}
use Rattle.cell_model.specs.declared.column.Column.{Column}
use Rattle.cell_model.specs.Kinds.{has_width, values_of}
use Rattle.cell_model.specs.Schemas.{IsName, AreNamed, begins_with_key, first_twins, most_columns, schema_fault}
use Rattle.workload_spec.specs.declared.extent.Extent.{Extent}
use Rattle.workload_spec.specs.Extents.{is_extent}
use Rattle.workload_spec.specs.Valid.{is_within, is_lower_case, is_digit, underscore, is_name_byte, is_name, are_columns, is_column}
use Rattle.workload_spec.specs.Grammar.{key_column, columns_from}
use Rattle.workload_laws.proofs.Columns.{columns_are}
use Rattle.workload_laws.proofs.NarrowTables.{key_within, narrow_columns}
use Rattle.workload_laws.proofs.NarrowScripts.{bounds}

-- A byte within a range below 128 is below 128.
within_ascii : (low high byte : ℕ) → high < 128 → is_within low high byte ≡ true → byte < 128
within_ascii low high byte few is = omega (arith, few, leb-true byte high (and_parts (nat_le low byte) (nat_le byte high) is).1)

-- A byte of a name is below 128.
byte_ascii : (byte : ℕ) → is_name_byte byte ≡ true → byte < 128
byte_ascii byte is = elim (or_cases (is_lower_case byte || is_digit byte) (byte == underscore) is) [
  | inl letter ↦ elim (or_cases (is_lower_case byte) (is_digit byte) letter) [
    | inl lower ↦ within_ascii 97 122 byte (omega arith) lower
    | inr digit ↦ within_ascii 48 57 byte (omega arith) digit
  ]
  | inr e ↦ omega (arith, eqb-true byte 95 e)
]

-- The bytes of a name are all below 128.
bytes_ascii : (bytes : List ℕ) → list_all is_name_byte bytes ≡ true → IsAscii bytes
bytes_ascii [] all = λ i. omega arith
bytes_ascii (byte ∷ bytes) all =
    let a = and_parts (is_name_byte byte) (list_all is_name_byte bytes) all in
    IsAscii-cons byte bytes (byte_ascii byte a.0) (bytes_ascii bytes a.1)

-- A name has bytes of names alone, and not more than 32 of them.
name_is : (name : List ℕ) → is_name name ≡ true → (list_all is_name_byte name ≡ true) × (length name ≤ 32)
name_is [] is = absurd cc
name_is (IsAscii-cons ∷ rest) is =
    let a = and_parts (is_lower_case IsAscii-cons && list_all is_name_byte rest) (nat_lt (length rest) 32) is in
    let b = and_parts (is_lower_case IsAscii-cons) (list_all is_name_byte rest) a.0 in
    (rw (b.0) b.1, omega (arith, ltb-true (length rest) 32 a.1))

-- where all columns pass the test, each has a name
pub all_named : (columns : List Column) → list_all is_column columns ≡ true → All IsName columns
all_named [] all = All-nil IsName
all_named (column ∷ columns) all =
    let a = and_parts (is_column column) (list_all is_column columns) all in
    let c = and_parts (is_name column.name) (has_width (values_of column.kind)) a.0 in
    let n = name_is column.name c.0 in
    All-cons IsName column columns (IsUtf8-from_ascii column.name (bytes_ascii column.name n.0), omega (arith, n.1), c.1) (all_named columns a.1)

-- An option that is tested as nothing is nothing.
none_is : {X : Type 0} (o : Option X) → is_none o ≡ true → o ≡ None
none_is None e = refl
none_is (Some x) e = absurd cc

-- columns that are read make a schema
pub record MakesSchema (columns : List Column) : Type 0 where
  pub named : AreNamed columns
  pub sound : schema_fault columns ≡ None

-- columns that are read make a schema
pub columns_make : (extent : Extent) (words : List (List ℕ)) (read : List Column × List (List ℕ)) → is_extent extent ≡ true → columns_from extent (key_column ∷ []) words ≡ Ok read → MakesSchema read.0
columns_make extent words read is e =
    let b = bounds extent is in
    let w = (narrow_columns extent words (key_column ∷ []) b.columns (key_within extent b.some)).to read e in
    let are : are_columns read.0 ≡ true = (columns_are words (key_column ∷ []) read w.0).are refl in
    let a = and_parts (begins_with_key read.0 && nat_le (length read.0) most_columns && is_none (first_twins 0 read.0)) (list_all is_column read.0) are in
    let c = and_parts (begins_with_key read.0 && nat_le (length read.0) most_columns) (is_none (first_twins 0 read.0)) a.0 in
    let d = and_parts (begins_with_key read.0) (nat_le (length read.0) most_columns) c.0 in
    record {
      named = record { each = all_named read.0 a.1 };
      sound = rw (d.0, le-ltb most_columns (length read.0) (leb-true (length read.0) most_columns d.1), none_is (first_twins 0 read.0) c.1) refl;
    }
