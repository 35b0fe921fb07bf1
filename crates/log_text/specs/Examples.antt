-- Texts of worked logs.
use Rattle.std.specs.Prelude.{◌≡◌, ℕ, true, false, List, [], ◌∷◌, ◌++◌, pos, negsuc, codes}
use Rattle.std.specs.Prelude.{None, Some}
use Rattle.cell_model.specs.declared.cell.Cell.TheVariants.{Null, Num, Truth, Text, Blob}
use Rattle.cell_model.specs.declared.column.Column.{Column}
use Rattle.cell_model.specs.declared.kind.Kind.{Kind}
use Rattle.cell_model.specs.declared.kind.Kind.TheVariants as kind
use Rattle.cell_model.specs.declared.table.TableDecl.{TableDecl}
use Rattle.isolation_spec.specs.Contents.{History, place_at}
use Rattle.log_text.specs.Lines.{log_text}

abbrev pub column : List ℕ → Kind → Column
column name kind = record { name = name; kind = kind; nullable = true }

-- `stock key:i64 name:utf8? sold:bool? seal:fixed2?` and `visits key:i64`
abbrev pub key : Column
key = record { name = codes "key"; kind = kind.I64; nullable = false }

abbrev pub table_of : List ℕ → List Column → TableDecl
table_of name columns = record { name = name; schema = columns; slots = 8; blocks = 1 }

abbrev pub tables : List TableDecl
tables =
    table_of (codes "stock") (key ∷ column (codes "name") kind.Utf8
    ∷ column (codes "sold") kind.Bool ∷ column (codes "seal") (kind.Fixed 2) ∷ [])
    ∷ table_of (codes "visits") (key ∷ []) ∷ []

-- three commits: two rows of the first table and one of the second; a row in place of the first; and
-- no row in the place of the second, nor in that of the third
abbrev pub commits : History
commits =
    ((
      place_at 0 (negsuc 0),
      Some (Num (negsuc 0) ∷ Text (codes "a \"b\"") ∷ Truth true
          ∷ Blob (255 ∷ 0 ∷ []) ∷ []),
    )
    ∷ (place_at 0 (pos 2), Some (Num (pos 2) ∷ Null ∷ Truth false ∷ Null ∷ []))
    ∷ (place_at 1 (pos 7), Some (Num (pos 7) ∷ [])) ∷ [])
    ∷ ((place_at 0 (negsuc 0), Some (Num (negsuc 0) ∷ Null ∷ Null ∷ Null ∷ [])) ∷ [])
    ∷ ((place_at 0 (pos 2), None) ∷ (place_at 1 (pos 7), None) ∷ []) ∷ []

abbrev pub commit_text : List ℕ
commit_text =
    codes "1 | put stock -1 \"a \\\"b\\\"\" true xff00 | put stock 2 null false null | put visits 7\n"
    ++ (codes "2 | put stock -1 null null null\n"
    ++ codes "3 | delete stock 2 | delete visits 7\n")

-- The commits are counted from 1, each with its writes behind bars.
abbrev pub CommitsAreTold : Type 0
CommitsAreTold = log_text tables commits None ≡ commit_text

-- Where the bytes are no log, the place is told behind the commits in front of it.
abbrev pub BrokenLogsAreTold : Type 0
BrokenLogsAreTold = log_text tables commits (Some 140) ≡ commit_text ++ codes "not a log at 140\n"

-- A log without commits has no line, and bytes that do not begin as one have that of their place.
abbrev pub EmptyLogsAreTold : Type 0
EmptyLogsAreTold = (log_text tables [] None ≡ [])
    × (log_text tables [] (Some 0) ≡ codes "not a log at 0\n")
