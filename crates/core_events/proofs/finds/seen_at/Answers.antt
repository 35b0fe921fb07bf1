use Rattle.std.proofs.Common.{ap, ◌∙◌, sym}
use Rattle.block_spec.specs.Slots.{Slot, seen}
use Rattle.core_events.proofs.Places.{slot_told, ok_more}
use Rattle.core_events.proofs.finds.seen_at.Goals as goal

pub returns-clause-row : goal.returns-clause-row
returns-clause-row g c = ok_more c.read.result _ _ c.read.ensures.row (λ row is s agrees.
    is ∙ ap (λ (x : Slot). seen x c.args.own.now.snapshot.stamp c.args.own.now.session)
    (sym (slot_told c.args.shape.now c.args.held.now s c.args.table c.args.place c.block.result c.slot.result c.body-body.result.now agrees c.block.ensures.block c.slot.ensures.slot c.body-body.ensures)))
