use Rattle.std.proofs.Common.{◌<◌, length, get_or, ap, ◌∙◌, sym, refl, subst, arith}
use Rattle.std.proofs.Math.ListN.{length-set}
use Rattle.std.proofs.lemmas.List.{set-set}
use Rattle.cell_model.specs.declared.cell.Cell.{Cell}
use Rattle.block_columns.specs.Cells.{ColumnValue}
use Rattle.block_columns.specs.Columns.{IsSpare, cell_in, with_null}
use Rattle.block_columns.proofs.Slots.{spare_long, spare_of, filled_at, part_more, part_end}
use Rattle.block_columns.proofs.rows.move_row.Goals as goal

pub bounds-cells-i : goal.bounds-cells-i
bounds-cells-i c = omega (arith, spare_long c.args.at c.args.columns.now c.args.cells.now c.requires.spare)

pub take-requires-clause-at : goal.take-requires-clause-at
take-requires-clause-at c = subst (λ (v : ColumnValue). c.args.at < length v.cells)
    (sym (filled_at (with_null c.args.at) c.args.columns.now c.args.columns.now c.loop-i.columns c.loop-i.i c.index-columns-i.result c.loop-i.invariant.left c.loop-i-test.true refl))
    (c.requires.at c.loop-i.i c.index-columns-i.result c.loop-i-test.true)

pub take-requires-clause-spare : goal.take-requires-clause-spare
take-requires-clause-spare c = subst (λ (z : Cell). IsSpare c.args.at (get_or c.loop-i.columns c.loop-i.i c.index-columns-i.result) z) (sym c.replace-spare.ensures.value)
    (spare_of c.args.at c.args.columns.now c.loop-i.columns c.args.cells.now c.loop-i.cells c.loop-i.i c.index-columns-i.result c.index-cells-i.result c.loop-i.invariant.left c.loop-i.invariant.moved c.loop-i-test.true c.requires.spare)

pub bounds-cells-i-in-loop-i : goal.bounds-cells-i-in-loop-i
bounds-cells-i-in-loop-i c = omega (arith, spare_long c.args.at c.args.columns.now c.args.cells.now c.requires.spare, length-set c.loop-i.cells c.loop-i.i c.replace-spare.new.dest)

pub loop-i-preserved : goal.loop-i-preserved
loop-i-preserved c = record {
  left = part_more (with_null c.args.at) c.args.columns.now c.args.columns.now c.loop-i.columns c.loop-i.i c.index-columns-i.result c.take.new.self c.loop-i.invariant.left
      (c.take.ensures.left ∙ ap (λ (v : ColumnValue). with_null c.args.at v) (filled_at (with_null c.args.at) c.args.columns.now c.args.columns.now c.loop-i.columns c.loop-i.i c.index-columns-i.result c.loop-i.invariant.left c.loop-i-test.true refl)) c.loop-i-test.true refl;
  moved = set-set c.loop-i.cells c.loop-i.i c.replace-spare.new.dest c.take.result
      ∙ part_more (cell_in c.args.at) c.args.columns.now c.args.cells.now c.loop-i.cells c.loop-i.i c.index-columns-i.result c.take.result c.loop-i.invariant.moved
      (c.take.ensures.taken ∙ ap (λ (v : ColumnValue). cell_in c.args.at v) (filled_at (with_null c.args.at) c.args.columns.now c.args.columns.now c.loop-i.columns c.loop-i.i c.index-columns-i.result c.loop-i.invariant.left c.loop-i-test.true refl)) c.loop-i-test.true
      (spare_long c.args.at c.args.columns.now c.args.cells.now c.requires.spare);
}

pub returns-clause-moved : goal.returns-clause-moved
returns-clause-moved c = part_end (cell_in c.args.at) c.args.columns.now c.args.cells.now c.loop-i.cells c.loop-i.i c.loop-i.invariant.moved c.loop-i-test.false (spare_long c.args.at c.args.columns.now c.args.cells.now c.requires.spare)
