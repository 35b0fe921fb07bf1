-- The columns of the table are named.
use Rattle.std.proofs.Common.{◌≡◌, ◌≤◌, [], ◌∷◌, length, codes, refl, arith}
use Rattle.std.specs.Prelude.{true, false}
use Rattle.std.specs.Str.{IsAscii}
use Rattle.std.proofs.lemmas.List.Elements.{All-nil, All-cons}
use Rattle.std.proofs.lemmas.Str.{IsUtf8-from_ascii}
use Rattle.std.proofs.lemmas.Str.Ascii.{IsAscii-cons}
use Rattle.cell_model.specs.declared.column.Column.{Column}
use Rattle.cell_model.specs.declared.kind.Kind.TheVariants.{I64, Utf8}
use Rattle.cell_model.specs.Kinds.{has_width, values_of}
use Rattle.cell_model.specs.Schemas.{AreNamed, IsName}
use Rattle.bench_spec.specs.Generated.{bench_columns}

-- A name without bytes is one of ASCII.
no_bytes : IsAscii []
no_bytes = λ i. omega arith

-- A column with a short name of ASCII is named.
named : (column : Column) → IsAscii column.name → length column.name ≤ 100 → has_width (values_of column.kind) ≡ true → IsName column
named column ascii few wide = (IsUtf8-from_ascii column.name ascii, omega (arith, few), wide)

-- the key of a row
abbrev pub key : Column
key = record { name = codes "key"; kind = I64; nullable = false }

-- its number
abbrev pub number : Column
number = record { name = codes "n"; kind = I64; nullable = false }

-- its text, which may be null
abbrev pub text : Column
text = record { name = codes "t"; kind = Utf8; nullable = true }

-- the columns of the table are named
pub columns_named : AreNamed bench_columns
columns_named = record {
  each = All-cons IsName key (number ∷ text ∷ []) (named key (IsAscii-cons 107 (101 ∷ 121 ∷ []) (omega arith) (IsAscii-cons 101 (121 ∷ []) (omega arith) (IsAscii-cons 121 [] (omega arith) no_bytes))) (omega arith) refl)
      (All-cons IsName number (text ∷ []) (named number (IsAscii-cons 110 [] (omega arith) no_bytes) (omega arith) refl)
      (All-cons IsName text [] (named text (IsAscii-cons 116 [] (omega arith) no_bytes) (omega arith) refl) (All-nil IsName)));
}
