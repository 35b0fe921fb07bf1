use Rattle.std.proofs.Common.{◌<◌, true, List, length, ap, ◌∙◌, sym, subst}
use Rattle.std.specs.List.{AllZip}
use Rattle.cell_model.specs.declared.cell.Cell.{Cell}
use Rattle.cell_model.specs.Rows.{Fits}
use Rattle.block_columns.specs.Cells.{ColumnValue}
use Rattle.block_columns.specs.Columns.{CellFits, ColumnsValue, columns_in, with_row}
use Rattle.block_columns.proofs.Fitted.{row_each, zip_length}
use Rattle.block_columns.proofs.Rowed.{slot_written, columns_long}
use Rattle.block_columns.proofs.columns.Columns.lay.Goals as goal

pub lay_row-requires-clause-fits : goal.lay_row-requires-clause-fits
lay_row-requires-clause-fits c =
    subst (λ (l : List ColumnValue). AllZip CellFits (columns_in l) c.as_mut_slice-2.result.now) (sym c.as_mut_slice.ensures.value)
    (subst (λ (l : List Cell). AllZip CellFits (columns_in c.self.inside.columns.items) l) (sym (c.as_mut_slice-2.ensures.value ∙ c.into_vec-cells.ensures)) (row_each (columns_in c.self.inside.columns.items) c.args.row (subst (λ (v : ColumnsValue). Fits v.columns c.args.row) (sym c.self.view_is) c.requires.fits)))

pub invariant_of-self : goal.invariant_of-self
invariant_of-self c = (slot_written c.self.inside.taken c.set.new.self c.self.inside.columns.items c.lay_row.new.columns c.self.inside.slots c.args.slot c.self.inside.columns.len true c.args.row c.args.self.now c.self.view_is
    c.self.invariant (subst (λ (v : ColumnsValue). c.args.slot < v.room) (sym c.self.view_is) c.requires.slot) c.set.ensures
    (c.lay_row.ensures ∙ ap (λ (l : List ColumnValue). with_row c.args.slot l c.as_mut_slice-2.result.now) c.as_mut_slice.ensures.value ∙ ap (λ (l : List Cell). with_row c.args.slot c.self.inside.columns.items l) (c.as_mut_slice-2.ensures.value ∙ c.into_vec-cells.ensures))
    (sym c.as_mut_slice.ensures.len ∙ ap (λ (l : List ColumnValue). length l) c.as_mut_slice.ensures.value)
    (zip_length (columns_in c.self.inside.columns.items) c.args.row (row_each (columns_in c.self.inside.columns.items) c.args.row (subst (λ (v : ColumnsValue). Fits v.columns c.args.row) (sym c.self.view_is) c.requires.fits)) ∙ (columns_long c.self.inside.columns.items)) (λ h. (row_each (columns_in c.self.inside.columns.items) c.args.row (subst (λ (v : ColumnsValue). Fits v.columns c.args.row) (sym c.self.view_is) c.requires.fits))) (λ h. cc)).0

pub returns-clause-rows : goal.returns-clause-rows
returns-clause-rows c = (slot_written c.self.inside.taken c.set.new.self c.self.inside.columns.items c.lay_row.new.columns c.self.inside.slots c.args.slot c.self.inside.columns.len true c.args.row c.args.self.now c.self.view_is
    c.self.invariant (subst (λ (v : ColumnsValue). c.args.slot < v.room) (sym c.self.view_is) c.requires.slot) c.set.ensures
    (c.lay_row.ensures ∙ ap (λ (l : List ColumnValue). with_row c.args.slot l c.as_mut_slice-2.result.now) c.as_mut_slice.ensures.value ∙ ap (λ (l : List Cell). with_row c.args.slot c.self.inside.columns.items l) (c.as_mut_slice-2.ensures.value ∙ c.into_vec-cells.ensures))
    (sym c.as_mut_slice.ensures.len ∙ ap (λ (l : List ColumnValue). length l) c.as_mut_slice.ensures.value)
    (zip_length (columns_in c.self.inside.columns.items) c.args.row (row_each (columns_in c.self.inside.columns.items) c.args.row (subst (λ (v : ColumnsValue). Fits v.columns c.args.row) (sym c.self.view_is) c.requires.fits)) ∙ (columns_long c.self.inside.columns.items)) (λ h. (row_each (columns_in c.self.inside.columns.items) c.args.row (subst (λ (v : ColumnsValue). Fits v.columns c.args.row) (sym c.self.view_is) c.requires.fits))) (λ h. cc)).1

pub returns-clause-columns : goal.returns-clause-columns
returns-clause-columns c = (slot_written c.self.inside.taken c.set.new.self c.self.inside.columns.items c.lay_row.new.columns c.self.inside.slots c.args.slot c.self.inside.columns.len true c.args.row c.args.self.now c.self.view_is
    c.self.invariant (subst (λ (v : ColumnsValue). c.args.slot < v.room) (sym c.self.view_is) c.requires.slot) c.set.ensures
    (c.lay_row.ensures ∙ ap (λ (l : List ColumnValue). with_row c.args.slot l c.as_mut_slice-2.result.now) c.as_mut_slice.ensures.value ∙ ap (λ (l : List Cell). with_row c.args.slot c.self.inside.columns.items l) (c.as_mut_slice-2.ensures.value ∙ c.into_vec-cells.ensures))
    (sym c.as_mut_slice.ensures.len ∙ ap (λ (l : List ColumnValue). length l) c.as_mut_slice.ensures.value)
    (zip_length (columns_in c.self.inside.columns.items) c.args.row (row_each (columns_in c.self.inside.columns.items) c.args.row (subst (λ (v : ColumnsValue). Fits v.columns c.args.row) (sym c.self.view_is) c.requires.fits)) ∙ (columns_long c.self.inside.columns.items)) (λ h. (row_each (columns_in c.self.inside.columns.items) c.args.row (subst (λ (v : ColumnsValue). Fits v.columns c.args.row) (sym c.self.view_is) c.requires.fits))) (λ h. cc)).2
