-- The lines that rows add to a text.
use Rattle.std.specs.Prelude.{◌≡◌, ℕ, ◌+◌, List, ◌++◌, length, map}
use Rattle.cell_model.specs.declared.cell.Cell.{Cell}
use Rattle.workload_spec.specs.ReplyText.{row_line}
use Rattle.workload_spec.specs.Words.{lines_text}

-- A text grew by a line for each row, and a count by how many these are.
pub record AddsLines (text : List ℕ) (count : ℕ) (rows : List (List Cell)) (grown : List ℕ)
    (counted : ℕ) : Type 0 where
  pub text_is : grown ≡ text ++ lines_text (map row_line rows)
  pub count_is : counted ≡ count + length rows
