use Rattle.std.proofs.Common.{◌<◌, true, List, length, ap, ◌∙◌, sym, subst}
use Rattle.std.specs.Prelude.{slice_set, Option, option_map, All}
use Rattle.std.specs.List.{AllZip}
use Rattle.cell_model.specs.declared.cell.Cell.{Cell}
use Rattle.block_spec.specs.declared.patch.Assignment.{Assignment}
use Rattle.block_spec.specs.declared.change.Before.TheVariants as before
use Rattle.block_spec.specs.declared.change.Change.TheVariants as change
use Rattle.block_spec.specs.Fitting.{PatchFits}
use Rattle.block_spec.specs.Slots.{columns_before, image_before, patched}
use Rattle.block_columns.specs.Cells.{ColumnValue}
use Rattle.block_columns.specs.Columns.{CellFits, ColumnsValue, cells_at, columns_in, with_row}
use Rattle.block_columns.proofs.Fitted.{patched_each, patched_long, before_fits}
use Rattle.block_columns.proofs.Tables.{cells_at-long}
use Rattle.block_columns.proofs.Rowed.{slot_written, bit_within, row_here, room_all, itself, no_column}
use Rattle.block_columns.proofs.columns.Columns.patch.Goals as goal

pub exchange_patch-requires-clause-fits : goal.exchange_patch-requires-clause-fits
exchange_patch-requires-clause-fits c =
    subst (λ (l : List ColumnValue). PatchFits (columns_in l) c.as_mut_slice-2.result.now) (sym c.as_mut_slice.ensures.value)
    (subst (λ (l : List Assignment). PatchFits (columns_in c.self.inside.columns.items) l) (sym (c.as_mut_slice-2.ensures.value ∙ c.into_vec-assignments.ensures)) (subst (λ (v : ColumnsValue). PatchFits v.columns c.args.patch) (sym c.self.view_is) c.requires.fits))

pub exchange_patch-requires-clause-slot : goal.exchange_patch-requires-clause-slot
exchange_patch-requires-clause-slot c =
    subst (λ (l : List ColumnValue). AllZip CellFits (columns_in l) (cells_at c.args.slot l)) (sym c.as_mut_slice.ensures.value) (c.self.invariant.fits c.args.slot (row_here c.self.inside.taken c.self.inside.columns.items c.self.inside.slots c.args.slot c.args.self.now c.self.view_is c.self.invariant c.requires.slot).0)

pub exchange_patch-requires-clause-at : goal.exchange_patch-requires-clause-at
exchange_patch-requires-clause-at c = (subst (λ (l : List ColumnValue). All (λ (v : ColumnValue). c.args.slot < length v.cells) l) (sym c.as_mut_slice.ensures.value) (room_all c.self.inside.taken c.self.inside.columns.items c.self.inside.slots c.args.slot c.self.invariant (bit_within c.self.inside.taken c.args.slot (row_here c.self.inside.taken c.self.inside.columns.items c.self.inside.slots c.args.slot c.args.self.now c.self.view_is c.self.invariant c.requires.slot).0)))

pub invariant_of-self-2 : goal.invariant_of-self-2
invariant_of-self-2 c = (slot_written c.self.inside.taken c.self.inside.taken c.self.inside.columns.items c.exchange_patch.new.columns c.self.inside.slots c.args.slot c.self.inside.columns.len true (patched (cells_at c.args.slot c.self.inside.columns.items) c.args.patch) c.args.self.now c.self.view_is
    c.self.invariant (bit_within c.self.inside.taken c.args.slot (row_here c.self.inside.taken c.self.inside.columns.items c.self.inside.slots c.args.slot c.args.self.now c.self.view_is c.self.invariant c.requires.slot).0) (itself c.self.inside.taken c.args.slot true (row_here c.self.inside.taken c.self.inside.columns.items c.self.inside.slots c.args.slot c.args.self.now c.self.view_is c.self.invariant c.requires.slot).0)
    (c.in_ok-before.ensures.ok ∙ ap (λ (l : List ColumnValue). with_row c.args.slot l (patched (cells_at c.args.slot l) c.as_mut_slice-2.result.now)) c.as_mut_slice.ensures.value ∙ ap (λ (l : List Assignment). with_row c.args.slot c.self.inside.columns.items (patched (cells_at c.args.slot c.self.inside.columns.items) l)) (c.as_mut_slice-2.ensures.value ∙ c.into_vec-assignments.ensures))
    (sym c.as_mut_slice.ensures.len ∙ ap (λ (l : List ColumnValue). length l) c.as_mut_slice.ensures.value)
    (patched_long (cells_at c.args.slot c.self.inside.columns.items) c.args.patch ∙ cells_at-long c.args.slot c.self.inside.columns.items) (λ h. patched_each (columns_in c.self.inside.columns.items) (cells_at c.args.slot c.self.inside.columns.items) c.args.patch no_column (c.self.invariant.fits c.args.slot (row_here c.self.inside.taken c.self.inside.columns.items c.self.inside.slots c.args.slot c.args.self.now c.self.view_is c.self.invariant c.requires.slot).0) (subst (λ (v : ColumnsValue). PatchFits v.columns c.args.patch) (sym c.self.view_is) c.requires.fits).each) (λ h. cc)).0

pub returns-clause-before : goal.returns-clause-before
returns-clause-before c = ap before.Part (c.from.ensures ∙ c.in_ok-before.ensures.before ∙ ap (λ (l : List ColumnValue). columns_before (cells_at c.args.slot l) c.as_mut_slice-2.result.now) c.as_mut_slice.ensures.value ∙ ap (λ (l : List Assignment). columns_before (cells_at c.args.slot c.self.inside.columns.items) l) (c.as_mut_slice-2.ensures.value ∙ c.into_vec-assignments.ensures)) ∙ ap (λ (o : Option (List Cell)). image_before o (change.Patch c.args.patch)) (sym (row_here c.self.inside.taken c.self.inside.columns.items c.self.inside.slots c.args.slot c.args.self.now c.self.view_is c.self.invariant c.requires.slot).1)

pub returns-clause-fits : goal.returns-clause-fits
returns-clause-fits c =
    subst (λ (v : ColumnsValue). PatchFits v.columns c.from.result) c.self.view_is
    (subst (λ (l : List Assignment). PatchFits (columns_in c.self.inside.columns.items) l) (sym (c.from.ensures ∙ c.in_ok-before.ensures.before ∙ ap (λ (l : List ColumnValue). columns_before (cells_at c.args.slot l) c.as_mut_slice-2.result.now) c.as_mut_slice.ensures.value ∙ ap (λ (l : List Assignment). columns_before (cells_at c.args.slot c.self.inside.columns.items) l) (c.as_mut_slice-2.ensures.value ∙ c.into_vec-assignments.ensures)))
    (before_fits (columns_in c.self.inside.columns.items) (cells_at c.args.slot c.self.inside.columns.items) c.args.patch (c.self.invariant.fits c.args.slot (row_here c.self.inside.taken c.self.inside.columns.items c.self.inside.slots c.args.slot c.args.self.now c.self.view_is c.self.invariant c.requires.slot).0) (subst (λ (v : ColumnsValue). PatchFits v.columns c.args.patch) (sym c.self.view_is) c.requires.fits)))

pub returns-clause-ok : goal.returns-clause-ok
returns-clause-ok c = (slot_written c.self.inside.taken c.self.inside.taken c.self.inside.columns.items c.exchange_patch.new.columns c.self.inside.slots c.args.slot c.self.inside.columns.len true (patched (cells_at c.args.slot c.self.inside.columns.items) c.args.patch) c.args.self.now c.self.view_is
    c.self.invariant (bit_within c.self.inside.taken c.args.slot (row_here c.self.inside.taken c.self.inside.columns.items c.self.inside.slots c.args.slot c.args.self.now c.self.view_is c.self.invariant c.requires.slot).0) (itself c.self.inside.taken c.args.slot true (row_here c.self.inside.taken c.self.inside.columns.items c.self.inside.slots c.args.slot c.args.self.now c.self.view_is c.self.invariant c.requires.slot).0)
    (c.in_ok-before.ensures.ok ∙ ap (λ (l : List ColumnValue). with_row c.args.slot l (patched (cells_at c.args.slot l) c.as_mut_slice-2.result.now)) c.as_mut_slice.ensures.value ∙ ap (λ (l : List Assignment). with_row c.args.slot c.self.inside.columns.items (patched (cells_at c.args.slot c.self.inside.columns.items) l)) (c.as_mut_slice-2.ensures.value ∙ c.into_vec-assignments.ensures))
    (sym c.as_mut_slice.ensures.len ∙ ap (λ (l : List ColumnValue). length l) c.as_mut_slice.ensures.value)
    (patched_long (cells_at c.args.slot c.self.inside.columns.items) c.args.patch ∙ cells_at-long c.args.slot c.self.inside.columns.items) (λ h. patched_each (columns_in c.self.inside.columns.items) (cells_at c.args.slot c.self.inside.columns.items) c.args.patch no_column (c.self.invariant.fits c.args.slot (row_here c.self.inside.taken c.self.inside.columns.items c.self.inside.slots c.args.slot c.args.self.now c.self.view_is c.self.invariant c.requires.slot).0) (subst (λ (v : ColumnsValue). PatchFits v.columns c.args.patch) (sym c.self.view_is) c.requires.fits).each) (λ h. cc)).1
    ∙ ap (λ (o : Option (List Cell)). slice_set c.args.self.now.rows c.args.slot (option_map (λ cells. patched cells c.args.patch) o)) (sym (row_here c.self.inside.taken c.self.inside.columns.items c.self.inside.slots c.args.slot c.args.self.now c.self.view_is c.self.invariant c.requires.slot).1)

pub returns-clause-columns : goal.returns-clause-columns
returns-clause-columns c = (slot_written c.self.inside.taken c.self.inside.taken c.self.inside.columns.items c.exchange_patch.new.columns c.self.inside.slots c.args.slot c.self.inside.columns.len true (patched (cells_at c.args.slot c.self.inside.columns.items) c.args.patch) c.args.self.now c.self.view_is
    c.self.invariant (bit_within c.self.inside.taken c.args.slot (row_here c.self.inside.taken c.self.inside.columns.items c.self.inside.slots c.args.slot c.args.self.now c.self.view_is c.self.invariant c.requires.slot).0) (itself c.self.inside.taken c.args.slot true (row_here c.self.inside.taken c.self.inside.columns.items c.self.inside.slots c.args.slot c.args.self.now c.self.view_is c.self.invariant c.requires.slot).0)
    (c.in_ok-before.ensures.ok ∙ ap (λ (l : List ColumnValue). with_row c.args.slot l (patched (cells_at c.args.slot l) c.as_mut_slice-2.result.now)) c.as_mut_slice.ensures.value ∙ ap (λ (l : List Assignment). with_row c.args.slot c.self.inside.columns.items (patched (cells_at c.args.slot c.self.inside.columns.items) l)) (c.as_mut_slice-2.ensures.value ∙ c.into_vec-assignments.ensures))
    (sym c.as_mut_slice.ensures.len ∙ ap (λ (l : List ColumnValue). length l) c.as_mut_slice.ensures.value)
    (patched_long (cells_at c.args.slot c.self.inside.columns.items) c.args.patch ∙ cells_at-long c.args.slot c.self.inside.columns.items) (λ h. patched_each (columns_in c.self.inside.columns.items) (cells_at c.args.slot c.self.inside.columns.items) c.args.patch no_column (c.self.invariant.fits c.args.slot (row_here c.self.inside.taken c.self.inside.columns.items c.self.inside.slots c.args.slot c.args.self.now c.self.view_is c.self.invariant c.requires.slot).0) (subst (λ (v : ColumnsValue). PatchFits v.columns c.args.patch) (sym c.self.view_is) c.requires.fits).each) (λ h. cc)).2
