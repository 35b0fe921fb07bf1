use Rattle.std.proofs.Common.{◌≡◌, Bool, true, false, cond, ap, ◌∙◌, sym, List, get_or}
use Rattle.std.proofs.lemmas.Option.{get_or_from_slice_get}
use Rattle.cell_model.specs.declared.cell.Cell.{Cell}
use Rattle.cell_model.specs.declared.cell.Cell.TheVariants.{Null}
use Rattle.block_columns.specs.Cells.{ColumnValue, full_cells}
use Rattle.block_columns.proofs.Kept.{masked-get}
use Rattle.block_columns.proofs.cells.ColumnCells.holds.Goals as goal

pub returns : goal.returns
returns c =
    let full : List Cell = full_cells c.self.inside.kind c.self.inside.store in
    let bit : get_or c.self.inside.valid c.args.at false ≡ true = get_or_from_slice_get c.self.inside.valid c.args.at c.get.result false c.get.ensures ∙ c.if-not-get.false in
    let same : get_or full c.args.at Null ≡ get_or c.args.self.now.cells c.args.at Null =
    ap (λ (b : Bool). cond b (get_or full c.args.at Null) Null) (sym bit) ∙ sym (masked-get c.self.inside.valid full c.args.at) ∙ ap (λ (v : ColumnValue). get_or v.cells c.args.at Null) c.self.view_is in
    ((λ held. sym same ∙ c.holds.ensures.0 held), (λ is. c.holds.ensures.1 (same ∙ is)))
