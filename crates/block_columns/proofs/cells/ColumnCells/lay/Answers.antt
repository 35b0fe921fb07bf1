use Rattle.std.proofs.Common.{not, ap, ◌∙◌, sym, subst, List}
use Rattle.std.specs.Prelude.{slice_set, []}
use Rattle.cell_model.specs.declared.cell.Cell.{Cell}
use Rattle.block_columns.specs.Cells.{ColumnValue, IsSlotOf, Keeps, cells_in}
use Rattle.block_columns.proofs.Kept.{keeps-set, keeps-cells, keeps-itself}
use Rattle.block_columns.proofs.cells.ColumnCells.lay.Goals as goal

laid : (c : goal.After-lay) → Keeps c.self.inside.kind c.set.new.self c.lay.new.self (slice_set (cells_in c.self.inside.kind c.self.inside.valid c.self.inside.store) c.args.at c.args.cell)
laid c = keeps-set _ _ _ _ _ _ c.args.at _ c.args.cell c.self.invariant
    (subst (λ (v : ColumnValue). IsSlotOf v.column.kind c.args.cell) (sym c.self.view_is) c.requires.slot)
    c.set.ensures (ap not c.is_null.ensures) c.lay.ensures.known (c.lay.ensures.laid _)

pub invariant_of-self : goal.invariant_of-self
invariant_of-self c = keeps-itself _ _ _ _ (laid c)

pub returns : goal.returns
returns c = ap (λ (cells : List Cell). let r : ColumnValue = record { column = record { name = []; kind = c.self.inside.kind; nullable = c.self.inside.nullable }; cells = cells } in r) (keeps-cells _ _ _ _ (laid c))
    ∙ ap (λ (v : ColumnValue). let r : ColumnValue = record { column = v.column; cells = slice_set v.cells c.args.at c.args.cell } in r) c.self.view_is
