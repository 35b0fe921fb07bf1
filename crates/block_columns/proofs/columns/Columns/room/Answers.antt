use Rattle.std.proofs.Common.{◌≡◌, ◌<◌, ap, ◌∙◌, sym, length, arith}
use Rattle.block_columns.specs.Columns.{ColumnsValue, row_in}
use Rattle.std.proofs.lemmas.List.FromFn.{length-map-range_with_len}
use Rattle.block_columns.proofs.Rowed.{bit_within, row_here}
use Rattle.block_columns.proofs.columns.Columns.room.Goals as goal

pub returns-clause-within : goal.returns-clause-within
returns-clause-within c =
    let slots : c.self.inside.slots ≡ length c.args.self.now.rows = sym (length-map-range_with_len (row_in c.self.inside.taken c.self.inside.columns.items) 0 c.self.inside.slots) ∙ ap (λ (v : ColumnsValue). length v.rows) c.self.view_is in
    omega (arith, slots, c.len.ensures, c.self.invariant.within)

pub returns-clause-held : goal.returns-clause-held
returns-clause-held c = λ slot row.
    let within : slot < length c.self.inside.taken = bit_within c.self.inside.taken slot (row_here c.self.inside.taken c.self.inside.columns.items c.self.inside.slots slot c.args.self.now c.self.view_is c.self.invariant row).0 in
    omega (arith, within, c.len.ensures)
