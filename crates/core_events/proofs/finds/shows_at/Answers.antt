use Rattle.std.proofs.Common.{is_some, ap, ◌∙◌, sym}
use Rattle.block_spec.specs.Slots.{Slot, seen}
use Rattle.core_events.proofs.Places.{slot_told}
use Rattle.core_events.proofs.finds.shows_at.Goals as goal

pub returns : goal.returns
returns c = λ s agrees.
    c.shows.ensures ∙ ap (λ (x : Slot). is_some (seen x c.args.own.now.snapshot.stamp c.args.own.now.session))
    (sym (slot_told c.args.shape.now c.args.held.now s c.args.table c.args.place c.block.result c.slot.result c.body-body.result.now agrees c.block.ensures.block c.slot.ensures.slot c.body-body.ensures))
