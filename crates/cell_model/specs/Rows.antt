-- Which rows fit which columns.
use Rattle.std.specs.Prelude.{◌≡◌, ℕ, ◌+◌, Bool, ◌==◌, List, [], ◌∷◌, length, nat_lt, not}
use Rattle.std.specs.Prelude.{if◌then◌else◌, Option, None, Some, is_none, Result, MatchResult}
use Rattle.cell_model.specs.Values.{is_value_of, is_null, byte_length, most_bytes_of}
use Rattle.cell_model.specs.declared.cell.Cell.{Cell}
use Rattle.cell_model.specs.declared.column.Column.{Column}
use Rattle.cell_model.specs.declared.row.RowFault.{RowFault}
use Rattle.cell_model.specs.declared.row.RowFault.TheVariants.{Arity, NullAt, RangeAt, LongAt}

-- The first rule that the cell breaks in column number `at`: a null only where the column is
-- nullable, a value of the column's kind, and not too long.
abbrev pub cell_fault : ℕ → Column → Cell → Option RowFault
cell_fault at column cell =
    if is_null cell then (if column.nullable then None else Some (NullAt at))
    else if not (is_value_of column.kind cell) then Some (RangeAt at)
    else if nat_lt (most_bytes_of column.kind) (byte_length cell) then Some (LongAt at)
    else None

-- the fault of the first column, from number `at` on, whose cell has one
abbrev pub first_fault : ℕ → List Column → List Cell → Option RowFault
first_fault at [] cells = None
first_fault at (column ∷ columns) [] = None
first_fault at (column ∷ columns) (cell ∷ cells) =
    if is_none (cell_fault at column cell) then first_fault (at + 1) columns cells
    else cell_fault at column cell

-- Why a row doesn't fit the columns: it has one cell for each column, and each cell keeps its
-- column's rules.
abbrev pub row_fault : List Column → List Cell → Option RowFault
row_fault columns cells = if length cells == length columns then first_fault 0 columns cells
    else Some Arity

-- the row fits the columns
abbrev pub Fits : List Column → List Cell → Type 0
Fits columns cells = row_fault columns cells ≡ None

-- the same as a test
abbrev pub fits : List Column → List Cell → Bool
fits columns cells = is_none (row_fault columns cells)

-- The answer to a test: Ok where there is no fault, else the fault.
abbrev pub AnswersFault : {A : Type 0} → Result A RowFault → Option RowFault → Type 0
AnswersFault answer fault = MatchResult answer (λ _. fault ≡ None) (λ e. fault ≡ Some e)
