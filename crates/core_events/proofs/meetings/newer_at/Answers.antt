use Rattle.std.proofs.Common.{ap, ◌∙◌, sym}
use Rattle.block_spec.specs.Slots.{Slot}
use Rattle.undo_chain.specs.Conflict.{conflict_of}
use Rattle.core_events.proofs.Places.{slot_told}
use Rattle.core_events.proofs.meetings.newer_at.Goals as goal

pub returns : goal.returns
returns c = λ s agrees.
    c.newer.ensures ∙ ap (λ (x : Slot). conflict_of x.entries c.args.own.now.snapshot.stamp c.args.own.now.session)
    (sym (slot_told c.args.shape.now c.args.held.now s c.args.table c.args.place c.block.result c.slot.result c.body.result.now agrees c.block.ensures.block c.slot.ensures.slot c.body.ensures))
