-- The cell of a row at a place, and the cells of a column.
use Rattle.std.proofs.Common.{◌≡◌, ℕ, List, sym, ap, ◌∙◌, slice_get}
use Rattle.std.specs.Option.{unwrap_or}
use Rattle.std.specs.declared.option.Option.{Option}
use Rattle.std.proofs.lemmas.Option.{unwrap_or-slice_get}
use Rattle.cell_model.specs.declared.cell.Cell.{Cell}
use Rattle.cell_model.specs.declared.cell.Cell.TheVariants.{Null}
use Rattle.arrow_array.specs.Batches.{cell_at}

-- what is there, or null
pub cell_there : (row : List Cell) (place : ℕ) (found : Option Cell) → found ≡ slice_get row place → cell_at place row ≡ unwrap_or found Null
cell_there row place found is = sym (ap (λ (o : Option Cell). unwrap_or o Null) is ∙ unwrap_or-slice_get row place Null)
