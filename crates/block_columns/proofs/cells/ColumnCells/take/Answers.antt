use Rattle.std.proofs.Common.{◌≡◌, ◌≤◌, ap, ◌∙◌, sym, subst, List, refl, get_or, length}
use Rattle.std.specs.Prelude.{slice_set, []}
use Rattle.cell_model.specs.declared.cell.Cell.{Cell}
use Rattle.cell_model.specs.declared.cell.Cell.TheVariants.{Null}
use Rattle.cell_model.specs.Kinds.{values_of}
use Rattle.block_columns.specs.Cells.{ColumnValue, Keeps, cells_in, own_bytes}
use Rattle.block_columns.proofs.Kept.{keeps-set, keeps-cells, keeps-itself, keeps-moved}
use Rattle.block_columns.proofs.cells.ColumnCells.take.Goals as goal

left : (c : goal.After-moved_cell) → Keeps c.self.inside.kind c.set.new.self c.clear-moved.new.self (slice_set (cells_in c.self.inside.kind c.self.inside.valid c.self.inside.store) c.args.at Null)
left c = keeps-set _ _ _ _ _ _ c.args.at _ Null c.self.invariant refl c.set.ensures refl (c.clear-moved.ensures.known _ c.self.invariant.known) (c.clear-moved.ensures.cleared _)

pub invariant_of-self : goal.invariant_of-self
invariant_of-self c = keeps-itself _ _ _ _ (left c)

pub returns-clause-taken : goal.returns-clause-taken
returns-clause-taken c =
    keeps-moved _ _ _ _ c.args.at c.clear-moved.result c.moved_cell.result c.args.spare c.self.invariant c.clear-moved.ensures.moved c.clear-moved.ensures.long c.clear-moved.ensures.short
    c.moved_cell.ensures.some c.moved_cell.ensures.none
    (subst (λ (v : ColumnValue). length (own_bytes (values_of v.column.kind) (get_or v.cells c.args.at Null)) ≤ 12 → c.args.spare ≡ get_or v.cells c.args.at Null) (sym c.self.view_is) c.requires.spare)
    ∙ ap (λ (v : ColumnValue). get_or v.cells c.args.at Null) c.self.view_is

pub returns-clause-left : goal.returns-clause-left
returns-clause-left c = ap (λ (cells : List Cell). let r : ColumnValue = record { column = record { name = []; kind = c.self.inside.kind; nullable = c.self.inside.nullable }; cells = cells } in r) (keeps-cells _ _ _ _ (left c))
    ∙ ap (λ (v : ColumnValue). let r : ColumnValue = record { column = v.column; cells = slice_set v.cells c.args.at Null } in r) c.self.view_is
