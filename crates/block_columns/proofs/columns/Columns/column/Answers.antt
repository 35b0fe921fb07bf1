use Rattle.std.proofs.Common.{◌<◌, ◌≤◌, length, get_or, ap, ◌∙◌, sym, subst, arith}
use Rattle.std.specs.Prelude.{None, Some, slice_get}
use Rattle.cell_model.specs.declared.cell.Cell.TheVariants.{Null}
use Rattle.block_columns.specs.Cells.{ColumnValue}
use Rattle.block_columns.specs.Columns.{ColumnsValue, cell_of}
use Rattle.block_columns.proofs.Rowed.{column_cell, column_there, columns_long}
use Rattle.block_columns.proofs.columns.Columns.column.Goals as goal

pub index-requires : goal.index-requires
index-requires c =
    omega (arith, c.requires, ap (λ (v : ColumnsValue). length v.columns) c.self.view_is, columns_long c.self.inside.columns.items)

within : (c : goal.After-index) → c.args.column < length c.self.inside.columns.items
within c = omega (arith, c.requires, ap (λ (v : ColumnsValue). length v.columns) c.self.view_is, columns_long c.self.inside.columns.items)

pub returns-clause-column : goal.returns-clause-column
returns-clause-column c =
    ap (λ (v : ColumnsValue). slice_get v.columns c.args.column) (sym c.self.view_is)
    ∙ column_there c.self.inside.columns.items c.args.column c.index.result.now (within c)
    ∙ ap (λ (v : ColumnValue). Some v.column) (sym c.index.ensures)

pub returns-clause-room : goal.returns-clause-room
returns-clause-room c =
    let cells : length c.self.inside.taken ≤ length (get_or c.self.inside.columns.items c.args.column c.index.result.now).cells =
    c.self.invariant.room c.args.column c.index.result.now (within c) in
    subst (λ (v : ColumnValue). c.args.self.now.room ≤ length v.cells) (sym c.index.ensures)
    (omega (arith, cells, ap (λ (v : ColumnsValue). v.room) c.self.view_is))

pub returns-clause-cells : goal.returns-clause-cells
returns-clause-cells c = λ slot.
    ap (λ (v : ColumnValue). get_or v.cells slot Null) c.index.ensures
    ∙ column_cell c.self.inside.taken c.self.inside.columns.items c.self.inside.slots c.args.column slot c.index.result.now c.self.invariant (within c)
    ∙ ap (λ (v : ColumnsValue). cell_of c.args.column (get_or v.rows slot None)) c.self.view_is
