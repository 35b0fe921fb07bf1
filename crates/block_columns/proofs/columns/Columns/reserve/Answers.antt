use Rattle.std.proofs.Common.{◌≤◌, ◌-◌, ◌++◌, take, drop, List, length, ap, ◌∙◌, sym, refl, subst, arith}
use Rattle.std.specs.Prelude.{All}
use Rattle.std.specs.List.{AllZip}
use Rattle.block_columns.specs.Cells.{ColumnValue}
use Rattle.block_columns.specs.Columns.{ColumnsValue, IsLonger}
use Rattle.block_columns.proofs.Rowed.{written_back, rows_long, grown, longer_long, longer_room, extended}
use Rattle.block_columns.proofs.columns.Columns.reserve.Goals as goal

pub larger-room-requires-clause-place : goal.larger-room-requires-clause-place
larger-room-requires-clause-place c =
    omega (arith, c.requires, ap (λ (v : ColumnsValue). length v.rows) c.self.view_is, rows_long c.self.inside.taken c.self.inside.columns.items c.self.inside.slots)

pub invariant_of-self : goal.invariant_of-self
invariant_of-self c = (grown c.self.inside.taken c.self.inside.taken c.self.inside.columns.items (take c.self.inside.columns.len (c.lengthen.new.columns ++ drop (length c.lengthen.new.columns) c.self.inside.columns.items)) c.self.inside.slots c.self.invariant
    (subst (λ (l : List ColumnValue). AllZip IsLonger c.self.inside.columns.items l) (sym (written_back c.lengthen.new.columns c.self.inside.columns.items c.self.inside.columns.len (longer_long c.self.inside.columns.items c.lengthen.new.columns (subst (λ (l : List ColumnValue). AllZip IsLonger l c.lengthen.new.columns) c.as_mut_slice.ensures.value c.lengthen.ensures.longer)) (sym c.as_mut_slice.ensures.len ∙ ap (λ (l : List ColumnValue). length l) c.as_mut_slice.ensures.value))) (subst (λ (l : List ColumnValue). AllZip IsLonger l c.lengthen.new.columns) c.as_mut_slice.ensures.value c.lengthen.ensures.longer))
    (λ i. refl) c.self.invariant.within
    (subst (λ (l : List ColumnValue). All (λ (v : ColumnValue). length c.self.inside.taken ≤ length v.cells) l) (sym (written_back c.lengthen.new.columns c.self.inside.columns.items c.self.inside.columns.len (longer_long c.self.inside.columns.items c.lengthen.new.columns (subst (λ (l : List ColumnValue). AllZip IsLonger l c.lengthen.new.columns) c.as_mut_slice.ensures.value c.lengthen.ensures.longer)) (sym c.as_mut_slice.ensures.len ∙ ap (λ (l : List ColumnValue). length l) c.as_mut_slice.ensures.value))) (longer_room (length c.self.inside.taken) c.self.inside.columns.items c.lengthen.new.columns (subst (λ (l : List ColumnValue). AllZip IsLonger l c.lengthen.new.columns) c.as_mut_slice.ensures.value c.lengthen.ensures.longer) c.self.invariant.room))).0

pub returns-in_err-lengthen-clause-columns : goal.returns-in_err-lengthen-clause-columns
returns-in_err-lengthen-clause-columns c = (grown c.self.inside.taken c.self.inside.taken c.self.inside.columns.items (take c.self.inside.columns.len (c.lengthen.new.columns ++ drop (length c.lengthen.new.columns) c.self.inside.columns.items)) c.self.inside.slots c.self.invariant
    (subst (λ (l : List ColumnValue). AllZip IsLonger c.self.inside.columns.items l) (sym (written_back c.lengthen.new.columns c.self.inside.columns.items c.self.inside.columns.len (longer_long c.self.inside.columns.items c.lengthen.new.columns (subst (λ (l : List ColumnValue). AllZip IsLonger l c.lengthen.new.columns) c.as_mut_slice.ensures.value c.lengthen.ensures.longer)) (sym c.as_mut_slice.ensures.len ∙ ap (λ (l : List ColumnValue). length l) c.as_mut_slice.ensures.value))) (subst (λ (l : List ColumnValue). AllZip IsLonger l c.lengthen.new.columns) c.as_mut_slice.ensures.value c.lengthen.ensures.longer))
    (λ i. refl) c.self.invariant.within
    (subst (λ (l : List ColumnValue). All (λ (v : ColumnValue). length c.self.inside.taken ≤ length v.cells) l) (sym (written_back c.lengthen.new.columns c.self.inside.columns.items c.self.inside.columns.len (longer_long c.self.inside.columns.items c.lengthen.new.columns (subst (λ (l : List ColumnValue). AllZip IsLonger l c.lengthen.new.columns) c.as_mut_slice.ensures.value c.lengthen.ensures.longer)) (sym c.as_mut_slice.ensures.len ∙ ap (λ (l : List ColumnValue). length l) c.as_mut_slice.ensures.value))) (longer_room (length c.self.inside.taken) c.self.inside.columns.items c.lengthen.new.columns (subst (λ (l : List ColumnValue). AllZip IsLonger l c.lengthen.new.columns) c.as_mut_slice.ensures.value c.lengthen.ensures.longer) c.self.invariant.room))).2 ∙ ap (λ (v : ColumnsValue). v.columns) c.self.view_is

pub returns-in_err-lengthen-clause-rows : goal.returns-in_err-lengthen-clause-rows
returns-in_err-lengthen-clause-rows c = (grown c.self.inside.taken c.self.inside.taken c.self.inside.columns.items (take c.self.inside.columns.len (c.lengthen.new.columns ++ drop (length c.lengthen.new.columns) c.self.inside.columns.items)) c.self.inside.slots c.self.invariant
    (subst (λ (l : List ColumnValue). AllZip IsLonger c.self.inside.columns.items l) (sym (written_back c.lengthen.new.columns c.self.inside.columns.items c.self.inside.columns.len (longer_long c.self.inside.columns.items c.lengthen.new.columns (subst (λ (l : List ColumnValue). AllZip IsLonger l c.lengthen.new.columns) c.as_mut_slice.ensures.value c.lengthen.ensures.longer)) (sym c.as_mut_slice.ensures.len ∙ ap (λ (l : List ColumnValue). length l) c.as_mut_slice.ensures.value))) (subst (λ (l : List ColumnValue). AllZip IsLonger l c.lengthen.new.columns) c.as_mut_slice.ensures.value c.lengthen.ensures.longer))
    (λ i. refl) c.self.invariant.within
    (subst (λ (l : List ColumnValue). All (λ (v : ColumnValue). length c.self.inside.taken ≤ length v.cells) l) (sym (written_back c.lengthen.new.columns c.self.inside.columns.items c.self.inside.columns.len (longer_long c.self.inside.columns.items c.lengthen.new.columns (subst (λ (l : List ColumnValue). AllZip IsLonger l c.lengthen.new.columns) c.as_mut_slice.ensures.value c.lengthen.ensures.longer)) (sym c.as_mut_slice.ensures.len ∙ ap (λ (l : List ColumnValue). length l) c.as_mut_slice.ensures.value))) (longer_room (length c.self.inside.taken) c.self.inside.columns.items c.lengthen.new.columns (subst (λ (l : List ColumnValue). AllZip IsLonger l c.lengthen.new.columns) c.as_mut_slice.ensures.value c.lengthen.ensures.longer) c.self.invariant.room))).1 ∙ ap (λ (v : ColumnsValue). v.rows) c.self.view_is

pub invariant_of-self-2 : goal.invariant_of-self-2
invariant_of-self-2 c = (grown c.self.inside.taken c.extend.new.self c.self.inside.columns.items (take c.self.inside.columns.len (c.lengthen.new.columns ++ drop (length c.lengthen.new.columns) c.self.inside.columns.items)) c.self.inside.slots c.self.invariant
    (subst (λ (l : List ColumnValue). AllZip IsLonger c.self.inside.columns.items l) (sym (written_back c.lengthen.new.columns c.self.inside.columns.items c.self.inside.columns.len (longer_long c.self.inside.columns.items c.lengthen.new.columns (subst (λ (l : List ColumnValue). AllZip IsLonger l c.lengthen.new.columns) c.as_mut_slice.ensures.value c.lengthen.ensures.longer)) (sym c.as_mut_slice.ensures.len ∙ ap (λ (l : List ColumnValue). length l) c.as_mut_slice.ensures.value))) (subst (λ (l : List ColumnValue). AllZip IsLonger l c.lengthen.new.columns) c.as_mut_slice.ensures.value c.lengthen.ensures.longer))
    (extended c.extend.result c.extend.new.self c.self.inside.taken (c.larger-room.result - c.len-len.result) c.extend.ensures.ok c.extend.ensures.err).0 (omega (arith, (extended c.extend.result c.extend.new.self c.self.inside.taken (c.larger-room.result - c.len-len.result) c.extend.ensures.ok c.extend.ensures.err).1, c.larger-room.ensures.most, c.larger-room.ensures.more, c.len-len.ensures))
    (subst (λ (l : List ColumnValue). All (λ (v : ColumnValue). length c.extend.new.self ≤ length v.cells) l) (sym (written_back c.lengthen.new.columns c.self.inside.columns.items c.self.inside.columns.len (longer_long c.self.inside.columns.items c.lengthen.new.columns (subst (λ (l : List ColumnValue). AllZip IsLonger l c.lengthen.new.columns) c.as_mut_slice.ensures.value c.lengthen.ensures.longer)) (sym c.as_mut_slice.ensures.len ∙ ap (λ (l : List ColumnValue). length l) c.as_mut_slice.ensures.value))) (λ k d lt. omega (arith, (extended c.extend.result c.extend.new.self c.self.inside.taken (c.larger-room.result - c.len-len.result) c.extend.ensures.ok c.extend.ensures.err).1, c.larger-room.ensures.more, c.len-len.ensures, c.in_ok-lengthen.ensures.ok k d lt)))).0

pub returns-clause-columns : goal.returns-clause-columns
returns-clause-columns c = (grown c.self.inside.taken c.extend.new.self c.self.inside.columns.items (take c.self.inside.columns.len (c.lengthen.new.columns ++ drop (length c.lengthen.new.columns) c.self.inside.columns.items)) c.self.inside.slots c.self.invariant
    (subst (λ (l : List ColumnValue). AllZip IsLonger c.self.inside.columns.items l) (sym (written_back c.lengthen.new.columns c.self.inside.columns.items c.self.inside.columns.len (longer_long c.self.inside.columns.items c.lengthen.new.columns (subst (λ (l : List ColumnValue). AllZip IsLonger l c.lengthen.new.columns) c.as_mut_slice.ensures.value c.lengthen.ensures.longer)) (sym c.as_mut_slice.ensures.len ∙ ap (λ (l : List ColumnValue). length l) c.as_mut_slice.ensures.value))) (subst (λ (l : List ColumnValue). AllZip IsLonger l c.lengthen.new.columns) c.as_mut_slice.ensures.value c.lengthen.ensures.longer))
    (extended c.extend.result c.extend.new.self c.self.inside.taken (c.larger-room.result - c.len-len.result) c.extend.ensures.ok c.extend.ensures.err).0 (omega (arith, (extended c.extend.result c.extend.new.self c.self.inside.taken (c.larger-room.result - c.len-len.result) c.extend.ensures.ok c.extend.ensures.err).1, c.larger-room.ensures.most, c.larger-room.ensures.more, c.len-len.ensures))
    (subst (λ (l : List ColumnValue). All (λ (v : ColumnValue). length c.extend.new.self ≤ length v.cells) l) (sym (written_back c.lengthen.new.columns c.self.inside.columns.items c.self.inside.columns.len (longer_long c.self.inside.columns.items c.lengthen.new.columns (subst (λ (l : List ColumnValue). AllZip IsLonger l c.lengthen.new.columns) c.as_mut_slice.ensures.value c.lengthen.ensures.longer)) (sym c.as_mut_slice.ensures.len ∙ ap (λ (l : List ColumnValue). length l) c.as_mut_slice.ensures.value))) (λ k d lt. omega (arith, (extended c.extend.result c.extend.new.self c.self.inside.taken (c.larger-room.result - c.len-len.result) c.extend.ensures.ok c.extend.ensures.err).1, c.larger-room.ensures.more, c.len-len.ensures, c.in_ok-lengthen.ensures.ok k d lt)))).2 ∙ ap (λ (v : ColumnsValue). v.columns) c.self.view_is

pub returns-clause-rows : goal.returns-clause-rows
returns-clause-rows c = (grown c.self.inside.taken c.extend.new.self c.self.inside.columns.items (take c.self.inside.columns.len (c.lengthen.new.columns ++ drop (length c.lengthen.new.columns) c.self.inside.columns.items)) c.self.inside.slots c.self.invariant
    (subst (λ (l : List ColumnValue). AllZip IsLonger c.self.inside.columns.items l) (sym (written_back c.lengthen.new.columns c.self.inside.columns.items c.self.inside.columns.len (longer_long c.self.inside.columns.items c.lengthen.new.columns (subst (λ (l : List ColumnValue). AllZip IsLonger l c.lengthen.new.columns) c.as_mut_slice.ensures.value c.lengthen.ensures.longer)) (sym c.as_mut_slice.ensures.len ∙ ap (λ (l : List ColumnValue). length l) c.as_mut_slice.ensures.value))) (subst (λ (l : List ColumnValue). AllZip IsLonger l c.lengthen.new.columns) c.as_mut_slice.ensures.value c.lengthen.ensures.longer))
    (extended c.extend.result c.extend.new.self c.self.inside.taken (c.larger-room.result - c.len-len.result) c.extend.ensures.ok c.extend.ensures.err).0 (omega (arith, (extended c.extend.result c.extend.new.self c.self.inside.taken (c.larger-room.result - c.len-len.result) c.extend.ensures.ok c.extend.ensures.err).1, c.larger-room.ensures.most, c.larger-room.ensures.more, c.len-len.ensures))
    (subst (λ (l : List ColumnValue). All (λ (v : ColumnValue). length c.extend.new.self ≤ length v.cells) l) (sym (written_back c.lengthen.new.columns c.self.inside.columns.items c.self.inside.columns.len (longer_long c.self.inside.columns.items c.lengthen.new.columns (subst (λ (l : List ColumnValue). AllZip IsLonger l c.lengthen.new.columns) c.as_mut_slice.ensures.value c.lengthen.ensures.longer)) (sym c.as_mut_slice.ensures.len ∙ ap (λ (l : List ColumnValue). length l) c.as_mut_slice.ensures.value))) (λ k d lt. omega (arith, (extended c.extend.result c.extend.new.self c.self.inside.taken (c.larger-room.result - c.len-len.result) c.extend.ensures.ok c.extend.ensures.err).1, c.larger-room.ensures.more, c.len-len.ensures, c.in_ok-lengthen.ensures.ok k d lt)))).1 ∙ ap (λ (v : ColumnsValue). v.rows) c.self.view_is
