use Rattle.std.proofs.Common.{◌≡◌, Bool, true, false, cond, ap, ◌∙◌, sym, List, get_or}
use Rattle.std.proofs.lemmas.Option.{get_or_from_slice_get}
use Rattle.cell_model.specs.declared.cell.Cell.{Cell}
use Rattle.cell_model.specs.declared.cell.Cell.TheVariants.{Null}
use Rattle.arrow_spec.specs.Arrays.{number_of}
use Rattle.block_columns.specs.Cells.{ColumnValue, full_cells}
use Rattle.block_columns.proofs.Kept.{masked-get}
use Rattle.block_columns.proofs.Lists.{fits_back}
use Rattle.block_columns.proofs.cells.ColumnCells.number.Goals as goal

pub returns : goal.returns
returns c =
    let full : List Cell = full_cells c.self.inside.kind c.self.inside.store in
    let bit : get_or c.self.inside.valid c.args.at false ≡ true = get_or_from_slice_get c.self.inside.valid c.args.at c.get.result false c.get.ensures ∙ c.if-not-get.false in
    fits_back c.number.result c.number.type_inv ∙ c.number.ensures c.self.inside.kind ∙ ap (λ (b : Bool). number_of (cond b (get_or full c.args.at Null) Null)) (sym bit) ∙ ap number_of (sym (masked-get c.self.inside.valid full c.args.at))
    ∙ ap (λ (v : ColumnValue). number_of (get_or v.cells c.args.at Null)) c.self.view_is
