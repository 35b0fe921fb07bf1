use Rattle.std.proofs.Common.{◌<◌, List, length, ap, ◌∙◌, sym, subst}
use Rattle.std.specs.Prelude.{Some, All}
use Rattle.block_columns.specs.Cells.{ColumnValue}
use Rattle.block_columns.specs.Columns.{cells_at}
use Rattle.block_columns.proofs.Rowed.{bit_within, row_here, room_all}
use Rattle.block_columns.proofs.columns.Columns.row.Goals as goal

pub read_row-requires : goal.read_row-requires
read_row-requires g c =
    subst (λ (l : List ColumnValue). All (λ (v : ColumnValue). c.args.slot < length v.cells) l) (sym c.as_slice.ensures.value)
    (room_all c.self.inside.taken c.self.inside.columns.items c.self.inside.slots c.args.slot c.self.invariant (bit_within c.self.inside.taken c.args.slot (row_here c.self.inside.taken c.self.inside.columns.items c.self.inside.slots c.args.slot c.args.self.now c.self.view_is c.self.invariant (c.has_row.ensures.0 c.if-not-has_row.false)).0))

pub returns-clause-row : goal.returns-clause-row
returns-clause-row g c = ap Some (c.from.ensures ∙ c.in_ok-cells.ensures ∙ ap (λ (l : List ColumnValue). cells_at c.args.slot l) c.as_slice.ensures.value) ∙ sym (row_here c.self.inside.taken c.self.inside.columns.items c.self.inside.slots c.args.slot c.args.self.now c.self.view_is c.self.invariant (c.has_row.ensures.0 c.if-not-has_row.false)).1
