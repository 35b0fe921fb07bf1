use Rattle.std.proofs.Common.{List, Option, None, is_some, get_or, sym, ap, ◌∙◌}
use Rattle.block_spec.specs.Slots.{Row, Slot}
use Rattle.core_events.proofs.Places.{as_told, row_at, slot_told}
use Rattle.core_events.proofs.finds.has_row.Goals as goal

pub returns : goal.returns
returns c = λ s agrees.
    as_told c.has_row.result (get_or c.columns.result.now.rows c.slot.result None) c.has_row.ensures
    ∙ ap (λ (rows : List (Option Row)). is_some (get_or rows c.slot.result None)) c.columns.ensures.rows
    ∙ ap is_some (row_at c.body.result.now.slots c.slot.result)
    ∙ ap (λ (x : Slot). is_some x.row) (sym (slot_told c.args.shape.now c.args.held.now s c.args.table c.args.place c.block.result c.slot.result c.body.result.now agrees c.block.ensures.block c.slot.ensures.slot c.body.ensures))
