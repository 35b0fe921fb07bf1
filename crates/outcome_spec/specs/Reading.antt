-- The words, numbers and rows of a line, by the readers of workloads. A number that is not there is
-- read as 0, whose own spelling is another then: what is read counts only where its own text is the
-- line.
use Rattle.std.specs.Prelude.{ℕ, ◌-◌, ◌^◌, true, ◌==◌, int_lt, List, [], ◌∷◌, ◌++◌, length, take}
use Rattle.std.specs.Prelude.{drop, slice_index_or, ℤ, pos, bytes_eq, unwrap_or, if◌then◌else◌}
use Rattle.std.specs.Prelude.{Option, None, Some, option_and_then}
use Rattle.std.specs.Option.{option_map_or}
use Rattle.std.specs.Result.{result_ok}
use Rattle.cell_model.specs.declared.cell.Cell.{Cell}
use Rattle.cell_model.specs.declared.column.Column.{Column}
use Rattle.isolation_spec.specs.Contents.{key_of}
use Rattle.workload_spec.specs.Words.{line_feed}
use Rattle.workload_spec.specs.ReplyText.{row_line}
use Rattle.workload_spec.specs.Reading.{natural_within, integer_of, words_of}
use Rattle.workload_spec.specs.Grammar.{cells_of}

-- the words of a line, which its line feed ends
abbrev pub words_in : List ℕ → List (List ℕ)
words_in line = words_of (take (length line - 1) line)

abbrev pub word_at : List (List ℕ) → ℕ → List ℕ
word_at words at = slice_index_or words at []

-- the number in the word at this place, of 32 bits or of 64
abbrev pub u32_at : List (List ℕ) → ℕ → ℕ
u32_at words at = unwrap_or (natural_within 0 (2 ^ 32 - 1) (word_at words at)) 0

abbrev pub u64_at : List (List ℕ) → ℕ → ℕ
u64_at words at = unwrap_or (natural_within 0 (2 ^ 64 - 1) (word_at words at)) 0

-- the number of 64 bits behind the first byte of the word at this place
abbrev pub tagged_u64_at : List (List ℕ) → ℕ → ℕ
tagged_u64_at words at = unwrap_or (natural_within 0 (2 ^ 64 - 1) (drop 1 (word_at words at))) 0

-- the number at this place that may have a minus
abbrev pub integer_at : List (List ℕ) → ℕ → ℤ
integer_at words at = unwrap_or (integer_of (word_at words at)) (pos 0)

-- The row that words spell: a cell of each column.
abbrev pub row_of : List Column → List (List ℕ) → Option (List Cell)
row_of columns words = if length words == length columns then result_ok (cells_of columns words)
    else None

-- the row of a line behind a scan's first
abbrev pub row_at : List Column → List ℕ → Option (List Cell)
row_at columns line = option_and_then
    (λ row. if bytes_eq (row_line row ++ line_feed ∷ []) line then Some row else None)
    (row_of columns (drop 1 (words_in line)))

-- The rows of the lines at the front of these, with keys that rise, the first of them above this
-- key.
abbrev pub rows_above : List Column → Option ℤ → List (List ℕ) → List (List Cell)
rows_above columns key [] = []
rows_above columns key (line ∷ lines) = elim (row_at columns line) [
  | Some row ↦ if option_map_or (λ below. int_lt below (key_of row)) key true
      then row ∷ rows_above columns (Some (key_of row)) lines else []
  | None ↦ []
]
