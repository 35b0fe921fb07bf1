use Rattle.cell_model.specs.declared.column.Column.{Column}
use Rattle.std.proofs.Common.{◌≡◌, ℕ, ◌<◌, List, length, get_or, take, ap, ◌∙◌, refl, sym, subst, arith}
use Rattle.std.specs.Prelude.{slice_set}
use Rattle.cell_model.specs.declared.cell.Cell.{Cell}
use Rattle.cell_model.specs.declared.cell.Cell.TheVariants.{Null}
use Rattle.block_spec.specs.declared.patch.Assignment.{Assignment}
use Rattle.block_spec.specs.Fitting.{AssignmentFits, PatchFits}
use Rattle.block_spec.specs.Slots.{columns_before}
use Rattle.block_columns.specs.Cells.{ColumnValue, IsSlotOf}
use Rattle.block_columns.specs.Columns.{cells_at, columns_in, with_cell}
use Rattle.block_columns.proofs.Slots.{filled_at, part_more, set_same}
use Rattle.block_columns.proofs.Tables.{with_row-itself, columns_in-with_row}
use Rattle.block_columns.proofs.Fitted.{before_fits}
use Rattle.block_columns.proofs.Undoing.{patch_bounds, patch_slot, patch_room, patch_more, patch_read, before_next, take_fits, undone}
use Rattle.block_columns.proofs.patches.exchange_patch.Goals as goal

abbrev emptied : Assignment → Assignment
emptied a = record { column = a.column; cell = Null }

pub loop-i-init : goal.loop-i-init
loop-i-init c = record {
  laid = sym (with_row-itself c.args.at c.args.columns.now);
  left = refl;
  before = c.in_ok-before.ensures.items;
  room = omega (arith, c.in_ok-before.ensures.len, c.in_ok-before.ensures.capacity, c.in_ok-before.ensures.exact);
}

pub bounds-columns-column : goal.bounds-columns-column
bounds-columns-column c =
    let read : get_or c.loop-i.patch c.loop-i.i c.index-patch-i.result ≡ get_or c.args.patch.now c.loop-i.i c.index-patch-i.result =
    filled_at emptied c.args.patch.now c.args.patch.now c.loop-i.patch c.loop-i.i c.index-patch-i.result c.loop-i.invariant.left c.loop-i-test.true refl in
    (patch_bounds c.args.at c.args.columns.now c.loop-i.columns c.args.patch.now c.loop-i.i c.loop-i.invariant.laid (get_or c.loop-i.patch c.loop-i.i c.index-patch-i.result)
    (subst (λ (a : Assignment). AssignmentFits (columns_in c.args.columns.now) a) (sym read) (c.requires.fits.each c.loop-i.i c.index-patch-i.result c.loop-i-test.true)))

pub exchange-requires-clause-slot : goal.exchange-requires-clause-slot
exchange-requires-clause-slot c =
    let read : get_or c.loop-i.patch c.loop-i.i c.index-patch-i.result ≡ get_or c.args.patch.now c.loop-i.i c.index-patch-i.result =
    filled_at emptied c.args.patch.now c.args.patch.now c.loop-i.patch c.loop-i.i c.index-patch-i.result c.loop-i.invariant.left c.loop-i-test.true refl in
    subst (λ (z : Cell). IsSlotOf (get_or c.loop-i.columns (get_or c.loop-i.patch c.loop-i.i c.index-patch-i.result).column c.index-columns-column.result).column.kind z) (sym c.replace-cell.ensures.value)
    (patch_slot c.args.at c.args.columns.now c.loop-i.columns c.args.patch.now c.loop-i.i c.loop-i.invariant.laid (get_or c.loop-i.patch c.loop-i.i c.index-patch-i.result) _
    (subst (λ (a : Assignment). AssignmentFits (columns_in c.args.columns.now) a) (sym read) (c.requires.fits.each c.loop-i.i c.index-patch-i.result c.loop-i-test.true)))

pub exchange-requires-clause-at : goal.exchange-requires-clause-at
exchange-requires-clause-at c =
    let read : get_or c.loop-i.patch c.loop-i.i c.index-patch-i.result ≡ get_or c.args.patch.now c.loop-i.i c.index-patch-i.result =
    filled_at emptied c.args.patch.now c.args.patch.now c.loop-i.patch c.loop-i.i c.index-patch-i.result c.loop-i.invariant.left c.loop-i-test.true refl in
    patch_room c.args.at c.args.columns.now c.loop-i.columns c.args.patch.now c.loop-i.i c.loop-i.invariant.laid _ _
    (patch_bounds c.args.at c.args.columns.now c.loop-i.columns c.args.patch.now c.loop-i.i c.loop-i.invariant.laid (get_or c.loop-i.patch c.loop-i.i c.index-patch-i.result)
    (subst (λ (a : Assignment). AssignmentFits (columns_in c.args.columns.now) a) (sym read) (c.requires.fits.each c.loop-i.i c.index-patch-i.result c.loop-i-test.true))) c.requires.at

pub lay_patch-requires-clause-fits : goal.lay_patch-requires-clause-fits
lay_patch-requires-clause-fits c =
    let same : slice_set c.loop-i.columns (get_or c.loop-i.patch c.loop-i.i c.index-patch-i.result).column c.exchange.new.column ≡ c.loop-i.columns = (ap (λ (v : ColumnValue). slice_set c.loop-i.columns (get_or c.loop-i.patch c.loop-i.i c.index-patch-i.result).column v) c.in-Err.ensures.err ∙ set_same c.loop-i.columns (get_or c.loop-i.patch c.loop-i.i c.index-patch-i.result).column c.index-columns-column.result) in
    subst (λ (l : List Assignment). PatchFits (columns_in (slice_set c.loop-i.columns (get_or c.loop-i.patch c.loop-i.i c.index-patch-i.result).column c.exchange.new.column)) l) (sym (c.as_mut_slice.ensures.value ∙ c.loop-i.invariant.before))
    (subst (λ (l : List Column). PatchFits l (columns_before (cells_at c.args.at c.args.columns.now) (take c.loop-i.i c.args.patch.now)))
    (sym (ap columns_in (same ∙ c.loop-i.invariant.laid) ∙ columns_in-with_row c.args.at c.args.columns.now _))
    (before_fits (columns_in c.args.columns.now) (cells_at c.args.at c.args.columns.now) (take c.loop-i.i c.args.patch.now) c.requires.slot (take_fits (columns_in c.args.columns.now) c.args.patch.now c.loop-i.i c.requires.fits)))

pub lay_patch-requires-clause-at : goal.lay_patch-requires-clause-at
lay_patch-requires-clause-at c =
    let same : slice_set c.loop-i.columns (get_or c.loop-i.patch c.loop-i.i c.index-patch-i.result).column c.exchange.new.column ≡ c.loop-i.columns = (ap (λ (v : ColumnValue). slice_set c.loop-i.columns (get_or c.loop-i.patch c.loop-i.i c.index-patch-i.result).column v) c.in-Err.ensures.err ∙ set_same c.loop-i.columns (get_or c.loop-i.patch c.loop-i.i c.index-patch-i.result).column c.index-columns-column.result) in
    subst (λ (l : List ColumnValue). (k : ℕ) (d : ColumnValue) → k < length l → c.args.at < length (get_or l k d).cells) (sym same)
    (λ k d lt. patch_room c.args.at c.args.columns.now c.loop-i.columns c.args.patch.now c.loop-i.i c.loop-i.invariant.laid k d lt c.requires.at)

pub returns-in-Err-clause-err : goal.returns-in-Err-clause-err
returns-in-Err-clause-err c =
    let same : slice_set c.loop-i.columns (get_or c.loop-i.patch c.loop-i.i c.index-patch-i.result).column c.exchange.new.column ≡ c.loop-i.columns = (ap (λ (v : ColumnValue). slice_set c.loop-i.columns (get_or c.loop-i.patch c.loop-i.i c.index-patch-i.result).column v) c.in-Err.ensures.err ∙ set_same c.loop-i.columns (get_or c.loop-i.patch c.loop-i.i c.index-patch-i.result).column c.index-columns-column.result) in
    undone c.args.at c.args.columns.now _ _ c.args.patch.now _ c.loop-i.i (same ∙ c.loop-i.invariant.laid) (c.as_mut_slice.ensures.value ∙ c.loop-i.invariant.before) c.lay_patch.ensures c.requires.at
    (take_fits (columns_in c.args.columns.now) c.args.patch.now c.loop-i.i c.requires.fits).distinct

pub loop-i-preserved : goal.loop-i-preserved
loop-i-preserved c =
    let read : get_or c.loop-i.patch c.loop-i.i c.index-patch-i.result ≡ get_or c.args.patch.now c.loop-i.i c.index-patch-i.result =
    filled_at emptied c.args.patch.now c.args.patch.now c.loop-i.patch c.loop-i.i c.index-patch-i.result c.loop-i.invariant.left c.loop-i-test.true refl in
    let is : get_or c.loop-i.patch c.loop-i.i c.index-patch-i.result ≡ get_or c.args.patch.now c.loop-i.i (get_or c.loop-i.patch c.loop-i.i c.index-patch-i.result) =
    read ∙ ap (λ (a : Assignment). get_or c.args.patch.now c.loop-i.i a) c.index-patch-i.is in
    record {
      laid = patch_more c.args.at c.args.columns.now c.loop-i.columns c.args.patch.now c.loop-i.i c.loop-i.invariant.laid (get_or c.loop-i.patch c.loop-i.i c.index-patch-i.result) c.index-columns-column.result c.exchange.new.column
          is c.loop-i-test.true
          (c.in-Ok.ensures.ok ∙ ap (λ (z : Cell). with_cell c.args.at (get_or c.loop-i.columns (get_or c.loop-i.patch c.loop-i.i c.index-patch-i.result).column c.index-columns-column.result) z) c.replace-cell.ensures.value);
      left = part_more emptied c.args.patch.now c.args.patch.now c.loop-i.patch c.loop-i.i c.index-patch-i.result _ c.loop-i.invariant.left
          (ap (λ (z : Cell). let r : Assignment = record { column = (get_or c.loop-i.patch c.loop-i.i c.index-patch-i.result).column; cell = z } in r) c.replace-cell.ensures.after ∙ ap emptied read)
          c.loop-i-test.true refl;
      before = before_next (cells_at c.args.at c.args.columns.now) c.args.patch.now _ _ c.loop-i.i (get_or c.loop-i.patch c.loop-i.i c.index-patch-i.result) _ c.loop-i.invariant.before is c.loop-i-test.true c.push_reserved.ensures.items
          (ap (λ (z : Cell). let r : Assignment = record { column = (get_or c.loop-i.patch c.loop-i.i c.index-patch-i.result).column; cell = z } in r)
          (c.in-Ok.ensures.taken
          ∙ patch_read c.args.at c.args.columns.now c.loop-i.columns c.args.patch.now c.loop-i.i (get_or c.loop-i.patch c.loop-i.i c.index-patch-i.result) c.index-columns-column.result c.loop-i.invariant.laid is c.loop-i-test.true
          (patch_bounds c.args.at c.args.columns.now c.loop-i.columns c.args.patch.now c.loop-i.i c.loop-i.invariant.laid (get_or c.loop-i.patch c.loop-i.i c.index-patch-i.result)
          (subst (λ (a : Assignment). AssignmentFits (columns_in c.args.columns.now) a) (sym read) (c.requires.fits.each c.loop-i.i c.index-patch-i.result c.loop-i-test.true))) c.requires.at c.requires.fits.distinct));
      room = omega (arith, c.push_reserved.ensures.len, c.push_reserved.ensures.capacity, c.loop-i.invariant.room, c.loop-i-test.true);
    }
