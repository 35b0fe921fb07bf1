use Rattle.std.proofs.Common.{ap, ◌∙◌, sym}
use Rattle.block_spec.specs.Slots.{Slot}
use Rattle.core_events.proofs.Places.{slot_told}
use Rattle.undo_chain.specs.Conflict.{largest, numbers_above}
use Rattle.core_events.proofs.stale.newest_at.Goals as goal

pub returns : goal.returns
returns c = λ s agrees.
    c.above.ensures ∙ ap (λ (x : Slot). largest (numbers_above x.entries c.args.snapshot.stamp))
    (sym (slot_told c.args.shape.now c.args.held.now s c.args.table c.args.place c.block.result c.slot.result c.body.result.now agrees c.block.ensures.block c.slot.ensures.slot c.body.ensures))
