use Rattle.std.proofs.Common.{◌+◌, List, [], ◌∷◌, ◌++◌, take, get_or, sym, subst}
use Rattle.std.specs.List.{AllZip}
use Rattle.std.proofs.lemmas.List.{take_more}
use Rattle.cell_model.specs.declared.cell.Cell.{Cell}
use Rattle.block_columns.specs.Cells.{ColumnValue}
use Rattle.block_columns.specs.Columns.{IsSpare}
use Rattle.block_columns.proofs.Slots.{spare_push}
use Rattle.block_columns.proofs.rows.spare_row.Goals as goal

pub loop-column-preserved : goal.loop-column-preserved
loop-column-preserved c =
    let one : IsSpare c.args.at (get_or c.args.columns.now c.loop-column.column-index c.column-item.result) c.in_ok-spare.field-0 =
    subst (λ (v : ColumnValue). IsSpare c.args.at v c.in_ok-spare.field-0) c.column-item.is c.in_ok-spare.ensures in
    subst (λ (xs : List Cell). AllZip (IsSpare c.args.at) (take (c.loop-column.column-index + 1) c.args.columns.now) xs) (sym c.in_ok-push.ensures.items)
    (subst (λ (cs : List ColumnValue). AllZip (IsSpare c.args.at) cs (c.loop-column.cells.items ++ c.in_ok-spare.field-0 ∷ []))
    (sym (take_more c.args.columns.now c.loop-column.column-index c.column-item.result c.loop-column-test.true))
    (spare_push c.args.at _ _ _ _ c.loop-column.invariant one))
