use Rattle.std.proofs.Common.{◌<◌, false, List, length, ap, ◌∙◌, sym, subst}
use Rattle.block_columns.specs.Cells.{ColumnValue}
use Rattle.block_columns.specs.Columns.{ColumnsValue, wiped}
use Rattle.block_columns.proofs.Tables.{nulls, nulls-long, nulls-null, wiped-is}
use Rattle.block_columns.proofs.Rowed.{slot_written}
use Rattle.block_columns.proofs.columns.Columns.erase.Goals as goal

pub invariant_of-self : goal.invariant_of-self
invariant_of-self c = (slot_written c.self.inside.taken c.set.new.self c.self.inside.columns.items c.wipe.new.columns c.self.inside.slots c.args.slot c.self.inside.columns.len false (nulls c.self.inside.columns.items) c.args.self.now c.self.view_is
    c.self.invariant (subst (λ (v : ColumnsValue). c.args.slot < v.room) (sym c.self.view_is) c.requires) c.set.ensures
    (c.wipe.ensures ∙ ap (λ (l : List ColumnValue). wiped c.args.slot l) c.as_mut_slice.ensures.value ∙ wiped-is c.args.slot c.self.inside.columns.items)
    (sym c.as_mut_slice.ensures.len ∙ ap (λ (l : List ColumnValue). length l) c.as_mut_slice.ensures.value)
    (nulls-long c.self.inside.columns.items) (λ h. cc) (λ h. nulls-null c.self.inside.columns.items)).0

pub returns-clause-rows : goal.returns-clause-rows
returns-clause-rows c = (slot_written c.self.inside.taken c.set.new.self c.self.inside.columns.items c.wipe.new.columns c.self.inside.slots c.args.slot c.self.inside.columns.len false (nulls c.self.inside.columns.items) c.args.self.now c.self.view_is
    c.self.invariant (subst (λ (v : ColumnsValue). c.args.slot < v.room) (sym c.self.view_is) c.requires) c.set.ensures
    (c.wipe.ensures ∙ ap (λ (l : List ColumnValue). wiped c.args.slot l) c.as_mut_slice.ensures.value ∙ wiped-is c.args.slot c.self.inside.columns.items)
    (sym c.as_mut_slice.ensures.len ∙ ap (λ (l : List ColumnValue). length l) c.as_mut_slice.ensures.value)
    (nulls-long c.self.inside.columns.items) (λ h. cc) (λ h. nulls-null c.self.inside.columns.items)).1

pub returns-clause-columns : goal.returns-clause-columns
returns-clause-columns c = (slot_written c.self.inside.taken c.set.new.self c.self.inside.columns.items c.wipe.new.columns c.self.inside.slots c.args.slot c.self.inside.columns.len false (nulls c.self.inside.columns.items) c.args.self.now c.self.view_is
    c.self.invariant (subst (λ (v : ColumnsValue). c.args.slot < v.room) (sym c.self.view_is) c.requires) c.set.ensures
    (c.wipe.ensures ∙ ap (λ (l : List ColumnValue). wiped c.args.slot l) c.as_mut_slice.ensures.value ∙ wiped-is c.args.slot c.self.inside.columns.items)
    (sym c.as_mut_slice.ensures.len ∙ ap (λ (l : List ColumnValue). length l) c.as_mut_slice.ensures.value)
    (nulls-long c.self.inside.columns.items) (λ h. cc) (λ h. nulls-null c.self.inside.columns.items)).2
