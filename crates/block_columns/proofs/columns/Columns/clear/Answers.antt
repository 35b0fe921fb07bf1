use Rattle.std.proofs.Common.{◌<◌, false, List, length, ap, ◌∙◌, sym, subst}
use Rattle.std.specs.Prelude.{Option, All}
use Rattle.cell_model.specs.declared.cell.Cell.{Cell}
use Rattle.cell_model.specs.Rows.{Fits}
use Rattle.block_spec.specs.declared.change.Before.TheVariants as before
use Rattle.block_spec.specs.declared.change.Change.TheVariants as change
use Rattle.block_spec.specs.Slots.{image_before}
use Rattle.block_columns.specs.Cells.{ColumnValue}
use Rattle.block_columns.specs.Columns.{ColumnsValue, cells_at, columns_in, wiped}
use Rattle.block_columns.proofs.Fitted.{each_row}
use Rattle.block_columns.proofs.Tables.{nulls, nulls-long, nulls-null, wiped-is}
use Rattle.block_columns.proofs.Rowed.{slot_written, bit_within, row_here, room_all}
use Rattle.block_columns.proofs.columns.Columns.clear.Goals as goal

pub take_row-requires : goal.take_row-requires
take_row-requires c = (subst (λ (l : List ColumnValue). All (λ (v : ColumnValue). c.args.slot < length v.cells) l) (sym c.as_mut_slice.ensures.value) (room_all c.self.inside.taken c.self.inside.columns.items c.self.inside.slots c.args.slot c.self.invariant (bit_within c.self.inside.taken c.args.slot (row_here c.self.inside.taken c.self.inside.columns.items c.self.inside.slots c.args.slot c.args.self.now c.self.view_is c.self.invariant (c.has_row.ensures.0 c.if-not-has_row.false)).0)))

pub set-requires : goal.set-requires
set-requires c = (bit_within c.self.inside.taken c.args.slot (row_here c.self.inside.taken c.self.inside.columns.items c.self.inside.slots c.args.slot c.args.self.now c.self.view_is c.self.invariant (c.has_row.ensures.0 c.if-not-has_row.false)).0)

pub invariant_of-self-2 : goal.invariant_of-self-2
invariant_of-self-2 c = (slot_written c.self.inside.taken c.set.new.self c.self.inside.columns.items c.take_row.new.columns c.self.inside.slots c.args.slot c.self.inside.columns.len false (nulls c.self.inside.columns.items) c.args.self.now c.self.view_is
    c.self.invariant (bit_within c.self.inside.taken c.args.slot (row_here c.self.inside.taken c.self.inside.columns.items c.self.inside.slots c.args.slot c.args.self.now c.self.view_is c.self.invariant (c.has_row.ensures.0 c.if-not-has_row.false)).0) c.set.ensures
    (c.in_ok-cells.ensures.ok ∙ ap (λ (l : List ColumnValue). wiped c.args.slot l) c.as_mut_slice.ensures.value ∙ wiped-is c.args.slot c.self.inside.columns.items)
    (sym c.as_mut_slice.ensures.len ∙ ap (λ (l : List ColumnValue). length l) c.as_mut_slice.ensures.value)
    (nulls-long c.self.inside.columns.items) (λ h. cc) (λ h. nulls-null c.self.inside.columns.items)).0

pub returns-clause-before : goal.returns-clause-before
returns-clause-before c = ap before.Whole (c.from.ensures ∙ c.in_ok-cells.ensures.taken ∙ ap (λ (l : List ColumnValue). cells_at c.args.slot l) c.as_mut_slice.ensures.value) ∙ ap (λ (o : Option (List Cell)). image_before o change.Gone) (sym (row_here c.self.inside.taken c.self.inside.columns.items c.self.inside.slots c.args.slot c.args.self.now c.self.view_is c.self.invariant (c.has_row.ensures.0 c.if-not-has_row.false)).1)

pub returns-clause-fits : goal.returns-clause-fits
returns-clause-fits c =
    subst (λ (v : ColumnsValue). Fits v.columns c.from.result) c.self.view_is
    (subst (λ (l : List Cell). Fits (columns_in c.self.inside.columns.items) l) (sym (c.from.ensures ∙ c.in_ok-cells.ensures.taken ∙ ap (λ (l : List ColumnValue). cells_at c.args.slot l) c.as_mut_slice.ensures.value))
    (each_row (columns_in c.self.inside.columns.items) (cells_at c.args.slot c.self.inside.columns.items) (c.self.invariant.fits c.args.slot (row_here c.self.inside.taken c.self.inside.columns.items c.self.inside.slots c.args.slot c.args.self.now c.self.view_is c.self.invariant (c.has_row.ensures.0 c.if-not-has_row.false)).0)))

pub returns-clause-ok : goal.returns-clause-ok
returns-clause-ok c = (slot_written c.self.inside.taken c.set.new.self c.self.inside.columns.items c.take_row.new.columns c.self.inside.slots c.args.slot c.self.inside.columns.len false (nulls c.self.inside.columns.items) c.args.self.now c.self.view_is
    c.self.invariant (bit_within c.self.inside.taken c.args.slot (row_here c.self.inside.taken c.self.inside.columns.items c.self.inside.slots c.args.slot c.args.self.now c.self.view_is c.self.invariant (c.has_row.ensures.0 c.if-not-has_row.false)).0) c.set.ensures
    (c.in_ok-cells.ensures.ok ∙ ap (λ (l : List ColumnValue). wiped c.args.slot l) c.as_mut_slice.ensures.value ∙ wiped-is c.args.slot c.self.inside.columns.items)
    (sym c.as_mut_slice.ensures.len ∙ ap (λ (l : List ColumnValue). length l) c.as_mut_slice.ensures.value)
    (nulls-long c.self.inside.columns.items) (λ h. cc) (λ h. nulls-null c.self.inside.columns.items)).1

pub returns-clause-columns : goal.returns-clause-columns
returns-clause-columns c = (slot_written c.self.inside.taken c.set.new.self c.self.inside.columns.items c.take_row.new.columns c.self.inside.slots c.args.slot c.self.inside.columns.len false (nulls c.self.inside.columns.items) c.args.self.now c.self.view_is
    c.self.invariant (bit_within c.self.inside.taken c.args.slot (row_here c.self.inside.taken c.self.inside.columns.items c.self.inside.slots c.args.slot c.args.self.now c.self.view_is c.self.invariant (c.has_row.ensures.0 c.if-not-has_row.false)).0) c.set.ensures
    (c.in_ok-cells.ensures.ok ∙ ap (λ (l : List ColumnValue). wiped c.args.slot l) c.as_mut_slice.ensures.value ∙ wiped-is c.args.slot c.self.inside.columns.items)
    (sym c.as_mut_slice.ensures.len ∙ ap (λ (l : List ColumnValue). length l) c.as_mut_slice.ensures.value)
    (nulls-long c.self.inside.columns.items) (λ h. cc) (λ h. nulls-null c.self.inside.columns.items)).2
