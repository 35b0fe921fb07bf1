use Rattle.std.proofs.Common.{◌≡◌, ℕ, ◌≤◌, ◌^◌, true, false, List, [], ◌∷◌, length, refl, lit<, lit≤, Option, None, Some}
use lib.Utf8.{encode}
use Rattle.std.specs.Prelude.{is_none}
use Rattle.std.specs.List.{All, list_all}
use Rattle.std.specs.Str.{is_utf8, chars}
use Rattle.std.proofs.lemmas.Bool.{and_parts}
use Rattle.std.proofs.lemmas.List.Elements.{All-cons, All-nil}
use Rattle.std.proofs.lemmas.Str.{IsUtf8-from_is_utf8}
use Rattle.cell_model.specs.Rows.{Fits, fits, row_fault}
use Rattle.cell_model.specs.Schemas.{IsName}
use Rattle.cell_model.specs.declared.cell.Cell.{Cell}
use Rattle.cell_model.specs.declared.column.Column.{Column}
use Rattle.cell_model.specs.declared.kind.Kind.TheVariants as kind
use Rattle.cell_model.specs.declared.row.RowFault.{RowFault}
use Rattle.arrow_spec.specs.Examples.{key_and, nine_rows, x_rows}
use Rattle.stream_laws.specs.Laws.{IsBatch}
use Rattle.stream_laws.proofs.nine_rows_are_told.Goals as goal

none-of : (fault : Option RowFault) → is_none fault ≡ true → fault ≡ None
none-of None is = refl
none-of (Some fault) is = absurd (cc)

all-fit : (columns : List Column) (rows : List (List Cell)) → list_all (fits columns) rows ≡ true
    → All (Fits columns) rows
all-fit columns [] test = All-nil (Fits columns)
all-fit columns (row ∷ rows) test =
    let both = and_parts (fits columns row) (list_all (fits columns) rows) test in
    All-cons (Fits columns) row rows (none-of (row_fault columns row) both.0)
    (all-fit columns rows both.1)

abbrev key_and_text : List Column
key_and_text = key_and kind.Utf8 true

abbrev key_name : List ℕ
key_name = 107 ∷ 101 ∷ 121 ∷ []

abbrev text_name : List ℕ
text_name = 118 ∷ []

named : All IsName key_and_text
unfolding is_utf8 chars encode
named =
    let key : Column = record { name = key_name; kind = kind.I64; nullable = false } in
    let text : Column = record { name = text_name; kind = kind.Utf8; nullable = true } in
    All-cons IsName key (text ∷ []) (IsUtf8-from_is_utf8 key_name refl, lit≤ tt, refl)
    (All-cons IsName text [] (IsUtf8-from_is_utf8 text_name refl, lit≤ tt, refl) (All-nil IsName))

batch : (keys : List ℕ) → list_all (fits key_and_text) (x_rows keys) ≡ true
    → length (x_rows keys) ≤ 2 ^ 15
    → IsBatch key_and_text (x_rows keys)
batch keys test few = record { fit = all-fit key_and_text (x_rows keys) test; few = few }

batches : All (IsBatch key_and_text) nine_rows
unfolding is_utf8 chars encode
batches =
    let Is : List (List Cell) → Type 0 = IsBatch key_and_text in
    let eight : List ℕ = 1 ∷ 2 ∷ 3 ∷ 4 ∷ 5 ∷ 6 ∷ 7 ∷ 8 ∷ [] in
    let one : List ℕ = 9 ∷ [] in
    All-cons Is (x_rows eight) (x_rows one ∷ []) (batch eight refl (lit≤ tt))
    (All-cons Is (x_rows one) [] (batch one refl (lit≤ tt)) (All-nil Is))

pub returns : goal.returns
returns c = (record { some = lit< tt; few = lit≤ tt; named = record { each = named } }, batches)
