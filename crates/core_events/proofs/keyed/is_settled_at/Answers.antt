use Rattle.std.proofs.Common.{ap, ◌∙◌, sym}
use Rattle.block_body.specs.Ages.{is_settled}
use Rattle.block_spec.specs.Slots.{Slot}
use Rattle.core_events.proofs.Places.{slot_told}
use Rattle.core_events.proofs.keyed.is_settled_at.Goals as goal

pub returns : goal.returns
returns c = λ s agrees.
    c.is_settled.ensures ∙ ap (λ (x : Slot). is_settled x c.args.own.now.snapshot.stamp)
    (sym (slot_told c.args.shape.now c.args.held.now s c.args.table c.args.place c.block.result c.slot.result c.body-body.result.now agrees c.block.ensures.block c.slot.ensures.slot c.body-body.ensures))
