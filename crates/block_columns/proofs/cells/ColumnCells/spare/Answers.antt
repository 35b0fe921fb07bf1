use Rattle.std.proofs.Common.{◌≡◌, ◌≤◌, length, get_or, subst}
use Rattle.cell_model.specs.declared.cell.Cell.TheVariants.{Null}
use Rattle.cell_model.specs.Kinds.{values_of}
use Rattle.block_columns.specs.Cells.{ColumnValue, own_bytes}
use Rattle.block_columns.proofs.Kept.{spare_serves}
use Rattle.block_columns.proofs.cells.ColumnCells.spare.Goals as goal

pub returns-then-is_long : goal.returns-then-is_long
returns-then-is_long c =
    subst (λ (v : ColumnValue). length (own_bytes (values_of v.column.kind) (get_or v.cells c.args.at Null)) ≤ 12 → Null ≡ get_or v.cells c.args.at Null) c.self.view_is
    (spare_serves _ _ _ _ c.args.at Null c.self.invariant (c.is_long.ensures.0 c.if-is_long.true))
