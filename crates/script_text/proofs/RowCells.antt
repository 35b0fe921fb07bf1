-- The cells of a row, one by one.
use Rattle.std.proofs.Common.{◌≡◌, ℕ, ◌+◌, ◌<◌, List, [], ◌∷◌, ◌++◌, length, drop, get_or, suc, drop-cons, add-one, refl, sym, ap, ◌∙◌, append_assoc}
use Rattle.std.specs.Prelude.{Result, Ok, Err}
use Rattle.cell_model.specs.declared.cell.Cell.{Cell}
use Rattle.cell_model.specs.declared.column.Column.{Column}
use Rattle.workload_spec.specs.declared.script.Cause.{Cause}
use Rattle.workload_spec.specs.declared.script.Cause.TheVariants as cause
use Rattle.workload_spec.specs.Reading.{cell_of}
use Rattle.workload_spec.specs.Grammar.{◌>>=◌, or_cause, cells_of}

-- the columns from a place on begin with the one there
pub columns_at : (columns : List Column) (i : ℕ) (column : Column) → i < length columns → column ≡ get_or columns i column → drop i columns ≡ column ∷ drop (i + 1) columns
columns_at columns i column lt is = rw add-one (drop-cons columns i column lt ∙ ap (λ (c : Column). c ∷ drop (suc i) columns) (sym is))

-- A cell that is read joins those before it before or after the others are read.
cells_regrouped : (cells : List Cell) (cell : Cell) (behind : Result (List Cell) Cause) → ((behind >>= λ more. Ok (cell ∷ more)) >>= λ more. Ok (cells ++ more)) ≡ (behind >>= λ more. Ok ((cells ++ cell ∷ []) ++ more))
cells_regrouped cells cell (Ok more) = ap (λ (all : List Cell). Ok all) (sym (append_assoc cells (cell ∷ []) more))
cells_regrouped cells cell (Err fault) = refl

-- a cell that is read joins those before it
pub cell_read : (columns : List Column) (i : ℕ) (column : Column) (words behind : List (List ℕ)) (word : List ℕ) (cells : List Cell) (cell : Cell) → drop i columns ≡ column ∷ drop (i + 1) columns → words ≡ word ∷ behind
    → or_cause cause.Cell (cell_of column word) ≡ Ok cell → (cells_of (drop i columns) words >>= λ more. Ok (cells ++ more)) ≡ (cells_of (drop (i + 1) columns) behind >>= λ more. Ok ((cells ++ cell ∷ []) ++ more))
cell_read columns i column words behind word cells cell at first is = rw (at, first, is) (cells_regrouped cells cell (cells_of (drop (i + 1) columns) behind))
