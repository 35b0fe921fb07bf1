use Rattle.std.proofs.Common.{◌<◌, length, sym, refl, arith}
use Rattle.cell_model.specs.declared.cell.Cell.TheVariants.{Null}
use Rattle.block_columns.specs.Cells.{ColumnValue}
use Rattle.block_columns.proofs.Slots.{zip_long, with_row-none, state_all, state_slot, state_more, state_end, moved_out, part_more}
use Rattle.block_columns.proofs.rows.lay_row.Goals as goal

pub loop-i-init : goal.loop-i-init
loop-i-init c = record { laid = sym (with_row-none c.args.at c.args.columns.now); left = refl }

pub bounds-cells-i : goal.bounds-cells-i
bounds-cells-i c = omega (arith, zip_long c.args.columns.now c.args.cells.now c.requires.fits)

pub lay-requires-clause-slot : goal.lay-requires-clause-slot
lay-requires-clause-slot c = state_slot c.args.at c.args.columns.now c.loop-i.columns c.args.cells.now c.loop-i.i _ _ c.loop-i.invariant.laid c.loop-i-test.true c.requires.fits
    (moved_out c.args.columns.now c.args.cells.now c.loop-i.cells c.loop-i.i c.replace-cell.result c.index-cells-i.result c.loop-i.invariant.left c.index-cells-i.is c.replace-cell.ensures.value c.loop-i-test.true
    (zip_long c.args.columns.now c.args.cells.now c.requires.fits))

pub lay-requires-clause-at : goal.lay-requires-clause-at
lay-requires-clause-at c = state_all (λ (v : ColumnValue). c.args.at < length v.cells) c.args.at c.args.columns.now c.loop-i.columns c.args.cells.now c.loop-i.i _ c.loop-i.invariant.laid c.loop-i-test.true c.requires.at

pub loop-i-preserved : goal.loop-i-preserved
loop-i-preserved c = record {
  laid = state_more c.args.at c.args.columns.now c.loop-i.columns c.args.cells.now c.loop-i.i c.index-columns-i.result c.lay.new.self c.replace-cell.result
      c.loop-i.invariant.laid
      (moved_out c.args.columns.now c.args.cells.now c.loop-i.cells c.loop-i.i c.replace-cell.result c.index-cells-i.result c.loop-i.invariant.left c.index-cells-i.is c.replace-cell.ensures.value c.loop-i-test.true
      (zip_long c.args.columns.now c.args.cells.now c.requires.fits))
      c.lay.ensures c.loop-i-test.true (zip_long c.args.columns.now c.args.cells.now c.requires.fits);
  left = part_more (λ (v : ColumnValue). Null) c.args.columns.now c.args.cells.now c.loop-i.cells c.loop-i.i c.index-columns-i.result c.replace-cell.new.dest c.loop-i.invariant.left
      c.replace-cell.ensures.after c.loop-i-test.true (zip_long c.args.columns.now c.args.cells.now c.requires.fits);
}

pub returns : goal.returns
returns c = state_end c.args.at c.args.columns.now c.loop-i.columns c.args.cells.now c.loop-i.i c.loop-i.invariant.laid (zip_long c.args.columns.now c.args.cells.now c.requires.fits) c.loop-i-test.false
