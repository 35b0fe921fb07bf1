use Rattle.std.proofs.Common.{◌≡◌, get_or, ap, ◌∙◌, sym, refl, subst}
use Rattle.cell_model.specs.declared.cell.Cell.{Cell}
use Rattle.cell_model.specs.declared.cell.Cell.TheVariants.{Null}
use Rattle.block_spec.specs.declared.patch.Assignment.{Assignment}
use Rattle.block_spec.specs.Fitting.{AssignmentFits}
use Rattle.block_columns.specs.Cells.{IsSlotOf}
use Rattle.block_columns.specs.Columns.{columns_in, with_cell}
use Rattle.block_columns.proofs.Slots.{filled_at, part_more}
use Rattle.block_columns.proofs.Tables.{with_row-itself}
use Rattle.block_columns.proofs.Undoing.{patch_bounds, patch_slot, patch_room, patch_more}
use Rattle.block_columns.proofs.patches.lay_patch.Goals as goal

abbrev emptied : Assignment → Assignment
emptied a = record { column = a.column; cell = Null }

pub loop-i-init : goal.loop-i-init
loop-i-init c = record { laid = sym (with_row-itself c.args.at c.args.columns.now); left = refl }

pub bounds-columns-place : goal.bounds-columns-place
bounds-columns-place c =
    let read : get_or c.loop-i.patch c.loop-i.i c.index-patch-i.result ≡ get_or c.args.patch.now c.loop-i.i c.index-patch-i.result =
    filled_at emptied c.args.patch.now c.args.patch.now c.loop-i.patch c.loop-i.i c.index-patch-i.result c.loop-i.invariant.left c.loop-i-test.true refl in
    patch_bounds c.args.at c.args.columns.now c.loop-i.columns c.args.patch.now c.loop-i.i c.loop-i.invariant.laid (get_or c.loop-i.patch c.loop-i.i c.index-patch-i.result)
    (subst (λ (a : Assignment). AssignmentFits (columns_in c.args.columns.now) a) (sym read) (c.requires.fits.each c.loop-i.i c.index-patch-i.result c.loop-i-test.true))

pub lay-requires-clause-slot : goal.lay-requires-clause-slot
lay-requires-clause-slot c =
    let read : get_or c.loop-i.patch c.loop-i.i c.index-patch-i.result ≡ get_or c.args.patch.now c.loop-i.i c.index-patch-i.result =
    filled_at emptied c.args.patch.now c.args.patch.now c.loop-i.patch c.loop-i.i c.index-patch-i.result c.loop-i.invariant.left c.loop-i-test.true refl in
    subst (λ (z : Cell). IsSlotOf (get_or c.loop-i.columns (get_or c.loop-i.patch c.loop-i.i c.index-patch-i.result).column c.index-columns-place.result).column.kind z) (sym c.replace-cell.ensures.value)
    (patch_slot c.args.at c.args.columns.now c.loop-i.columns c.args.patch.now c.loop-i.i c.loop-i.invariant.laid (get_or c.loop-i.patch c.loop-i.i c.index-patch-i.result) _
    (subst (λ (a : Assignment). AssignmentFits (columns_in c.args.columns.now) a) (sym read) (c.requires.fits.each c.loop-i.i c.index-patch-i.result c.loop-i-test.true)))

pub lay-requires-clause-at : goal.lay-requires-clause-at
lay-requires-clause-at c =
    let read : get_or c.loop-i.patch c.loop-i.i c.index-patch-i.result ≡ get_or c.args.patch.now c.loop-i.i c.index-patch-i.result =
    filled_at emptied c.args.patch.now c.args.patch.now c.loop-i.patch c.loop-i.i c.index-patch-i.result c.loop-i.invariant.left c.loop-i-test.true refl in
    patch_room c.args.at c.args.columns.now c.loop-i.columns c.args.patch.now c.loop-i.i c.loop-i.invariant.laid _ _
    (patch_bounds c.args.at c.args.columns.now c.loop-i.columns c.args.patch.now c.loop-i.i c.loop-i.invariant.laid (get_or c.loop-i.patch c.loop-i.i c.index-patch-i.result)
    (subst (λ (a : Assignment). AssignmentFits (columns_in c.args.columns.now) a) (sym read) (c.requires.fits.each c.loop-i.i c.index-patch-i.result c.loop-i-test.true)))
    c.requires.at

pub loop-i-preserved : goal.loop-i-preserved
loop-i-preserved c =
    let read : get_or c.loop-i.patch c.loop-i.i c.index-patch-i.result ≡ get_or c.args.patch.now c.loop-i.i c.index-patch-i.result =
    filled_at emptied c.args.patch.now c.args.patch.now c.loop-i.patch c.loop-i.i c.index-patch-i.result c.loop-i.invariant.left c.loop-i-test.true refl in
    record {
      laid = patch_more c.args.at c.args.columns.now c.loop-i.columns c.args.patch.now c.loop-i.i c.loop-i.invariant.laid (get_or c.loop-i.patch c.loop-i.i c.index-patch-i.result) c.index-columns-place.result c.lay.new.self
          (read ∙ ap (λ (a : Assignment). get_or c.args.patch.now c.loop-i.i a) c.index-patch-i.is) c.loop-i-test.true
          (c.lay.ensures ∙ ap (λ (z : Cell). with_cell c.args.at (get_or c.loop-i.columns (get_or c.loop-i.patch c.loop-i.i c.index-patch-i.result).column c.index-columns-place.result) z) c.replace-cell.ensures.value);
      left = part_more emptied c.args.patch.now c.args.patch.now c.loop-i.patch c.loop-i.i c.index-patch-i.result _ c.loop-i.invariant.left
          (ap (λ (z : Cell). let r : Assignment = record { column = (get_or c.loop-i.patch c.loop-i.i c.index-patch-i.result).column; cell = z } in r) c.replace-cell.ensures.after ∙ ap emptied read)
          c.loop-i-test.true refl;
    }
