-- Numbers whose sum is in reach.
use Rattle.std.specs.Prelude.{ℕ, ◌^◌, ℤ, pos, ◌+ℤ◌, ◌≤ℤ◌, List, All}
use Rattle.cell_model.specs.declared.cell.Cell.{Cell}
use Rattle.bench_spec.specs.Counted.{row_number}

-- the number is no farther from 0 than this
pub record IsNear (bound : ℕ) (number : ℤ) : Type 0 where
  pub low : pos 0 ≤ℤ (number +ℤ pos bound)
  pub high : number ≤ℤ pos bound

-- the numbers of the rows are those of at most 64 bits
abbrev pub AreSmall : List (List Cell) → Type 0
AreSmall rows = All (λ row. IsNear (2 ^ 64) (row_number row)) rows
