use Rattle.std.proofs.Common.{Bool, ap, ◌∙◌, sym, subst, List}
use Rattle.std.specs.Prelude.{[]}
use Rattle.cell_model.specs.declared.cell.Cell.{Cell}
use Rattle.block_columns.specs.Cells.{ColumnValue, Keeps, cells_in}
use Rattle.block_columns.proofs.Kept.{keeps-cells, keeps-itself, keeps-as}
use Rattle.block_columns.proofs.cells.ColumnCells.copy.Goals as goal

kept : (c : goal.In_ok-copy) → Keeps c.self.inside.kind c.in_ok-clone.field-0 c.in_ok-copy.field-0 (cells_in c.self.inside.kind c.self.inside.valid c.self.inside.store)
kept c = subst (λ (bits : List Bool). Keeps c.self.inside.kind bits c.in_ok-copy.field-0 (cells_in c.self.inside.kind c.self.inside.valid c.self.inside.store)) (sym c.in_ok-clone.ensures.cases)
    (keeps-as _ _ _ _ _ c.self.invariant (c.in_ok-copy.ensures.known _ c.self.invariant.known) (c.in_ok-copy.ensures.same _))

pub invariant_of-result : goal.invariant_of-result
invariant_of-result c = keeps-itself _ _ _ _ (kept c)

pub returns : goal.returns
returns c = ap (λ (cells : List Cell). let r : ColumnValue = record { column = record { name = []; kind = c.self.inside.kind; nullable = c.self.inside.nullable }; cells = cells } in r) (keeps-cells _ _ _ _ (kept c)) ∙ c.self.view_is
