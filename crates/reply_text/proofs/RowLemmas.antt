-- Cells and rows, one behind another.
use Rattle.std.proofs.Common.{◌≡◌, ℕ, ◌<◌, List, [], ◌∷◌, ◌++◌, length, refl, sym, ap, ◌∙◌, arith, append_assoc}
use Rattle.std.specs.Prelude.{Option, Some, None, codes}
use Rattle.cell_model.specs.declared.cell.Cell.{Cell}
use Rattle.reply_text.specs.Readers.{◌>>=◌, behind, cell_in, cells_in, row_in, rows_in}

-- one more in front of those to come is one more behind those that there are
pub regrouped : {X : Type 0} (xs : List X) (x : X) (more : Option (List X)) → ((more >>= λ ys. Some (x ∷ ys)) >>= λ ys. Some (xs ++ ys)) ≡ (more >>= λ ys. Some ((xs ++ x ∷ []) ++ ys))
regrouped xs x None = refl
regrouped xs x (Some more) = ap Some (sym (append_assoc xs (x ∷ []) more))

-- a cell that is read goes behind those before it
pub cell_read : (word : List ℕ) (words : List (List ℕ)) (cells : List Cell) (cell : Cell) → cell_in word ≡ Some cell
    → (cells_in (word ∷ words) >>= λ more. Some (cells ++ more)) ≡ (cells_in words >>= λ more. Some ((cells ++ cell ∷ []) ++ more))
cell_read word words cells cell is = rw is (regrouped cells cell (cells_in words))

-- the first line's row stands before those of the others
pub first_line : (line : List ℕ) (rest : List (List ℕ)) → 0 < length rest → rows_in (line ∷ rest) ≡ (behind (codes "| ") line >>= row_in >>= λ row. rows_in rest >>= λ rows. Some (row ∷ rows))
first_line line [] some = absurd (omega (arith, some))
first_line [] (next ∷ rest) some = refl
first_line (byte ∷ bytes) (next ∷ rest) some = refl

-- where the first line is no row there are no rows
pub no_row : (line : List ℕ) (rest : List (List ℕ)) → 0 < length rest → behind (codes "| ") line ≡ None → rows_in (line ∷ rest) ≡ None
no_row line rest some none = first_line line rest some ∙ rw none refl
