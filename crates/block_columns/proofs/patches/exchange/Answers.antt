use Rattle.std.proofs.Common.{List, ap, ◌∙◌}
use Rattle.std.proofs.lemmas.List.{set-set}
use Rattle.cell_model.specs.declared.cell.Cell.{Cell}
use Rattle.cell_model.specs.declared.cell.Cell.TheVariants.{Null}
use Rattle.block_columns.specs.Cells.{ColumnValue}
use Rattle.block_columns.specs.Columns.{with_cell}
use Rattle.block_columns.proofs.patches.exchange.Goals as goal

pub returns-clause-ok : goal.returns-clause-ok
returns-clause-ok c =
    c.lay.ensures ∙ ap (λ (v : ColumnValue). with_cell c.args.at v c.args.cell) c.take-old.ensures.left
    ∙ ap (λ (l : List Cell). let r : ColumnValue = record { column = c.args.column.now.column; cells = l } in r) (set-set c.args.column.now.cells c.args.at Null c.args.cell)
