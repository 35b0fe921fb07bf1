-- A column's name plays no part in what its cells have to keep.
use Rattle.std.proofs.Common.{◌≡◌, ℕ, ◌+◌, ◌==◌, cond, List, [], ◌∷◌, length, refl, ap, ◌∙◌}
use Rattle.std.specs.Prelude.{Option, Some, is_none}
use Rattle.std.proofs.lemmas.List.{length-map}
use Rattle.cell_model.specs.declared.cell.Cell.{Cell}
use Rattle.cell_model.specs.declared.column.Column.{Column}
use Rattle.cell_model.specs.declared.row.RowFault.{RowFault}
use Rattle.cell_model.specs.declared.row.RowFault.TheVariants.{Arity}
use Rattle.cell_model.specs.Rows.{cell_fault, first_fault, row_fault}
use Rattle.block_spec.specs.Fitting.{columns_of, unnamed}

-- The first cell with a fault is the same whatever the columns' names.
first-unnamed : (at : ℕ) (schema : List Column) (row : List Cell) → first_fault at (columns_of schema) row ≡ first_fault at schema row
first-unnamed at [] row = refl
first-unnamed at (c ∷ cs) [] = refl
first-unnamed at (c ∷ cs) (x ∷ xs) = ap (λ (o : Option RowFault). cond (is_none (cell_fault at c x)) o (cell_fault at c x)) (first-unnamed (at + 1) cs xs)

-- a row has the same fault, or none, whatever the columns' names
pub fault-unnamed : (schema : List Column) (row : List Cell) → row_fault (columns_of schema) row ≡ row_fault schema row
fault-unnamed schema row =
    ap (λ n. cond (length row == n) (first_fault 0 (columns_of schema) row) (Some Arity)) (length-map schema unnamed)
    ∙ ap (λ (o : Option RowFault). cond (length row == length schema) o (Some Arity)) (first-unnamed 0 schema row)
