use Rattle.std.proofs.Common.{Bool, false, ap, ◌∙◌, List, ◌++◌, replicate}
use Rattle.std.specs.Prelude.{[]}
use Rattle.cell_model.specs.declared.cell.Cell.{Cell}
use Rattle.cell_model.specs.declared.cell.Cell.TheVariants.{Null}
use Rattle.block_columns.specs.Cells.{ColumnValue, Keeps, cells_in}
use Rattle.block_columns.proofs.Lists.{on_err}
use Rattle.block_columns.proofs.Kept.{keeps-extend, keeps-cells, keeps-itself, keeps-as}
use Rattle.block_columns.proofs.cells.ColumnCells.extend.Goals as goal

kept : (c : goal.After-drop-valid-inside-in_err-extend-2) → Keeps c.self.inside.kind c.self.inside.valid c.extend-2.new.self (cells_in c.self.inside.kind c.self.inside.valid c.self.inside.store)
kept c = keeps-as _ _ _ _ _ c.self.invariant (c.extend-2.ensures.known _ c.self.invariant.known) (c.in_err-extend-2.ensures.err _)

pub invariant_of-self : goal.invariant_of-self
invariant_of-self c = keeps-itself _ _ _ _ (kept c)

pub returns-in_err-extend-2-clause-err : goal.returns-in_err-extend-2-clause-err
returns-in_err-extend-2-clause-err c = on_err c.from_residual-in_err-extend-2.result
    (ap (λ (cells : List Cell). let r : ColumnValue = record { column = record { name = []; kind = c.self.inside.kind; nullable = c.self.inside.nullable }; cells = cells } in r) (keeps-cells _ _ _ _ (kept c))
    ∙ c.self.view_is)

more : (c : goal.After-drop-self-inside) → Keeps c.self.inside.kind c.extend.new.self c.extend-2.new.self (cells_in c.self.inside.kind c.self.inside.valid c.self.inside.store ++ replicate c.args.n Null)
more c = keeps-extend _ _ _ _ _ _ c.args.n c.self.invariant
    (c.in_ok-extend.ensures.ok ∙ ap (λ (bits : List Bool). bits ++ replicate c.args.n false) c.in_ok-valid.ensures.cases)
    (c.extend-2.ensures.known _ c.self.invariant.known) (c.in_ok-extend-2.ensures.ok _)

pub invariant_of-self-2 : goal.invariant_of-self-2
invariant_of-self-2 c = keeps-itself _ _ _ _ (more c)

pub returns-clause-ok : goal.returns-clause-ok
returns-clause-ok c = ap (λ (cells : List Cell). let r : ColumnValue = record { column = record { name = []; kind = c.self.inside.kind; nullable = c.self.inside.nullable }; cells = cells } in r) (keeps-cells _ _ _ _ (more c))
    ∙ ap (λ (v : ColumnValue). let r : ColumnValue = record { column = v.column; cells = v.cells ++ replicate c.args.n Null } in r) c.self.view_is
