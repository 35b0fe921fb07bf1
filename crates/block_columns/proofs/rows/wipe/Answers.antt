use Rattle.std.proofs.Common.{ap, ◌∙◌, refl}
use Rattle.block_columns.specs.Cells.{ColumnValue}
use Rattle.block_columns.specs.Columns.{with_null}
use Rattle.block_columns.proofs.Slots.{part_more, filled_at}
use Rattle.block_columns.proofs.rows.wipe.Goals as goal

pub loop-column-preserved : goal.loop-column-preserved
loop-column-preserved c =
    part_more (with_null c.args.at) c.args.columns.now c.args.columns.now c.loop-column.columns c.loop-column.column-index c.column-item.result c.lay.new.self c.loop-column.invariant
    (c.lay.ensures ∙ ap (λ (v : ColumnValue). with_null c.args.at v)
    (filled_at (with_null c.args.at) c.args.columns.now c.args.columns.now c.loop-column.columns c.loop-column.column-index c.column-item.result c.loop-column.invariant c.loop-column-test.true refl))
    c.loop-column-test.true refl
