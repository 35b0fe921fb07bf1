-- Worked examples of values, rows and schemas, as facts.
use Rattle.std.specs.Prelude.{◌≡◌, ℕ, ◌-◌, ◌^◌, Bool, true, false, List, [], ◌∷◌, ◌++◌, map}
use Rattle.std.specs.Prelude.{replicate, ℤ, pos, negsuc, codes, None, Some}
use Rattle.cell_model.specs.declared.cell.Cell.TheVariants.{Null, Num, Truth, Blob}
use Rattle.cell_model.specs.declared.kind.Kind.{Kind}
use Rattle.cell_model.specs.declared.kind.Kind.TheVariants as kind
use Rattle.cell_model.specs.declared.column.Column.{Column}
use Rattle.cell_model.specs.declared.row.RowFault.TheVariants.{Arity, NullAt, RangeAt, LongAt}
use Rattle.cell_model.specs.declared.schema.SchemaFault.TheVariants.{NoKey, TooMany, TwoNames}
use Rattle.cell_model.specs.Kinds.{kinds}
use Rattle.cell_model.specs.Rows.{row_fault}
use Rattle.cell_model.specs.Schemas.{bits_of, most_slots_of, row_bits, schema_fault}
use Rattle.cell_model.specs.Values.{is_integer_of, most_bytes_of}

-- a column of a name and a kind, and whether a value may be missing
abbrev pub column : List ℕ → Kind → Bool → Column
column name kind nullable = record { name = name; kind = kind; nullable = nullable }

-- `key:i64`
abbrev pub key : Column
key = column (codes "key") kind.I64 false

-- `key:i64 v:utf8?`
abbrev pub narrow : List Column
narrow = key ∷ column (codes "v") kind.Utf8 true ∷ []

-- the key and 31 texts
abbrev pub wide : List Column
wide = key ∷ replicate 31 (column (codes "v") kind.Utf8 false)

-- the key and 31 columns of 1,024 bytes each
abbrev pub widest : List Column
widest = key ∷ replicate 31 (column (codes "v") (kind.Fixed 1024) false)

-- `key:i64 n:u8`
abbrev pub counted : List Column
counted = key ∷ column (codes "n") kind.U8 false ∷ []

abbrev pub SlotsFitABlock : Type 0
SlotsFitABlock = (row_bits narrow ∷ most_slots_of narrow ∷ row_bits wide ∷ most_slots_of wide
    ∷ row_bits widest ∷ most_slots_of widest ∷ [])
    ≡ 195 ∷ 32768 ∷ 4065 ∷ 2056 ∷ 254049 ∷ 32 ∷ []

abbrev pub KindsHaveWidths : Type 0
KindsHaveWidths = map bits_of (kinds ++ kind.Fixed 3 ∷ [])
    ≡ 8 ∷ 16 ∷ 32 ∷ 64 ∷ 8 ∷ 16 ∷ 32 ∷ 64 ∷ 1 ∷ 128 ∷ 128 ∷ 128 ∷ 128 ∷ 32 ∷ 24 ∷ []

abbrev pub KindsHaveLengths : Type 0
KindsHaveLengths = map most_bytes_of (kinds ++ kind.Fixed 3 ∷ [])
    ≡ replicate 9 0 ++ 65535 ∷ 65535 ∷ 1048576 ∷ 1048576 ∷ 0 ∷ 3 ∷ []

-- which kinds hold the number
abbrev pub holders : ℤ → List Bool
holders number = map (λ kind. is_integer_of kind number) kinds

-- the ends of the narrowest kinds, and what is beyond the widest
abbrev pub KindsHaveEnds : Type 0
KindsHaveEnds = map holders (negsuc 127 ∷ negsuc 128 ∷ pos 127 ∷ pos 128 ∷ pos 255 ∷ pos 256
    ∷ negsuc (2 ^ 63 - 1) ∷ negsuc (2 ^ 63) ∷ pos (2 ^ 64 - 1) ∷ pos (2 ^ 64) ∷ [])
    ≡ (replicate 4 true ++ replicate 9 false ++ true ∷ [])
    ∷ (false ∷ replicate 3 true ++ replicate 9 false ++ true ∷ [])
    ∷ (replicate 8 true ++ replicate 5 false ++ true ∷ [])
    ∷ (false ∷ replicate 7 true ++ replicate 5 false ++ true ∷ [])
    ∷ (false ∷ replicate 7 true ++ replicate 5 false ++ true ∷ [])
    ∷ (false ∷ replicate 3 true ++ false ∷ replicate 3 true ++ replicate 5 false ++ true ∷ [])
    ∷ (replicate 3 false ++ true ∷ replicate 10 false)
    ∷ replicate 14 false
    ∷ (replicate 7 false ++ true ∷ replicate 6 false)
    ∷ replicate 14 false
    ∷ []

-- the ends of the days, and what is beyond them
abbrev pub DaysHaveEnds : Type 0
DaysHaveEnds = map (is_integer_of kind.Date)
    (negsuc (2 ^ 31 - 1) ∷ negsuc (2 ^ 31) ∷ pos (2 ^ 31 - 1) ∷ pos (2 ^ 31) ∷ [])
    ≡ true ∷ false ∷ true ∷ false ∷ []

abbrev pub RowsAreJudged : Type 0
RowsAreJudged = map (row_fault counted)
    ((Num (pos 1) ∷ Num (pos 300) ∷ []) ∷ (Num (pos 1) ∷ Num (pos 255) ∷ [])
    ∷ (Num (pos 1) ∷ Null ∷ []) ∷ (Null ∷ Null ∷ [])
    ∷ (Num (pos 1) ∷ Truth true ∷ []) ∷ (Num (pos 1) ∷ []) ∷ [])
    ≡ Some (RangeAt 1) ∷ None ∷ Some (NullAt 1) ∷ Some (NullAt 0) ∷ Some (RangeAt 1) ∷ Some Arity
    ∷ []

-- a value one byte longer than the longest
abbrev pub LongValueIsRefused : Type 0
LongValueIsRefused = row_fault (column (codes "b") kind.Binary false ∷ [])
    (Blob (replicate (2 ^ 16) 0) ∷ []) ≡ Some (LongAt 0)

-- it is none too long for a large column
abbrev pub LargeValueFits : Type 0
LargeValueFits = row_fault (column (codes "b") kind.LargeBinary false ∷ [])
    (Blob (replicate (2 ^ 16) 0) ∷ []) ≡ None

-- `key:i64 h:fixed2?`
abbrev pub hashed : List Column
hashed = key ∷ column (codes "h") (kind.Fixed 2) true ∷ []

-- a value of two bytes fits, one of another length does not, and a null has none
abbrev pub FixedValuesAreJudged : Type 0
FixedValuesAreJudged = map (row_fault hashed)
    ((Num (pos 1) ∷ Blob (10 ∷ 255 ∷ []) ∷ []) ∷ (Num (pos 1) ∷ Blob (10 ∷ []) ∷ [])
    ∷ (Num (pos 1) ∷ Blob (10 ∷ 255 ∷ 0 ∷ []) ∷ []) ∷ (Num (pos 1) ∷ Null ∷ []) ∷ [])
    ≡ None ∷ Some (RangeAt 1) ∷ Some (RangeAt 1) ∷ None ∷ []

-- `key:i64 b:binary`
abbrev pub blobs : List Column
blobs = key ∷ column (codes "b") kind.Binary false ∷ []

abbrev pub BlobsAreBytes : Type 0
BlobsAreBytes = map (row_fault blobs)
    ((Num (pos 1) ∷ Blob (0 ∷ 255 ∷ []) ∷ []) ∷ (Num (pos 1) ∷ Blob (0 ∷ 256 ∷ []) ∷ []) ∷ [])
    ≡ None ∷ Some (RangeAt 1) ∷ []

abbrev pub SchemasAreJudged : Type 0
SchemasAreJudged = map schema_fault
    ([] ∷ narrow ∷ (column (codes "key") kind.I64 true ∷ [])
    ∷ (column (codes "key") kind.I32 false ∷ []) ∷ (key ∷ key ∷ [])
    ∷ (key ∷ replicate 32 (column (codes "v") kind.U8 false)) ∷ (narrow ++ counted) ∷ wide ∷ [])
    ≡ Some NoKey ∷ None ∷ Some NoKey ∷ Some NoKey ∷ Some (TwoNames 0 1) ∷ Some (TooMany 33) ∷ Some
    (TwoNames 0 2) ∷ Some (TwoNames 1 2) ∷ []
