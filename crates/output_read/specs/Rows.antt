-- The rows of a scan in their lines.
use Rattle.std.specs.Prelude.{ℕ, ℤ, int_lt, Bool, ◌≡◌, true, List, ◌++◌, length, take, map, Option}
use Rattle.std.specs.Prelude.{None, codes}
use Rattle.std.specs.List.{list_all}
use Rattle.cell_model.specs.declared.cell.Cell.{Cell}
use Rattle.cell_model.specs.declared.column.Column.{Column}
use Rattle.cell_model.specs.Rows.{fits}
use Rattle.std.specs.Option.{option_map_or}
use Rattle.isolation_spec.specs.Contents.{key_of}
use Rattle.workload_spec.specs.ReplyText.{row_line}
use Rattle.workload_spec.specs.Words.{lines_text}
use Rattle.outcome_spec.specs.Lines.{lines_of}
use Rattle.outcome_spec.specs.Reading.{rows_above}
use Rattle.reply_text.specs.Readers.{◌>>=◌, where_true, behind, row_in}

-- the row of these columns that a line without its end is
abbrev pub row_behind : List Column → List ℕ → Option (List Cell)
row_behind columns line = behind (codes "| ") line >>= row_in >>= λ row. where_true
    (fits columns row) row

-- the key is above the last one, if there is one
abbrev pub is_above : Option ℤ → ℤ → Bool
is_above below key = option_map_or (λ last. int_lt last key) below true

-- its key, where it is above the last one
abbrev pub key_above : List Column → Option ℤ → List ℕ → Option ℤ
key_above columns below line = row_behind columns line >>= λ row. where_true
    (is_above below (key_of row)) (key_of row)

-- So many rows, up to a count, stand at the front of the lines, and behind them this.
pub record AreAbove (columns : List Column) (count : ℕ) (lines : List ℕ) (many : ℕ) (rest : List ℕ) : Type 0 where
  pub rows : List (List Cell)
  pub are : rows_above columns None (take count (lines_of lines)) ≡ rows
  pub counted : length rows ≡ many
  pub text : lines ≡ lines_text (map row_line rows) ++ rest
  pub fit : list_all (fits columns) rows ≡ true
