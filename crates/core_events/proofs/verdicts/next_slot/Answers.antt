use Rattle.std.proofs.Common.{None, Some, Err, ap, ◌∙◌, sym}
use Rattle.event_spec.specs.declared.reply.WriteFault.TheVariants.{Full}
use Rattle.core_events.proofs.Places.{next_told}
use Rattle.core_events.proofs.verdicts.next_slot.Goals as goal

pub returns-in-Some-next_place : goal.returns-in-Some-next_place
returns-in-Some-next_place c = λ s agrees.
    next_told c.args.shape.now c.args.held.now s c.args.table c.slots.result c.args.own.now.written (Some c.in-Some-next_place.place) c.head-head.result.now agrees c.in_default.is c.head-head.ensures c.slots.ensures.slots (sym c.in-Some-next_place.is ∙ c.next_place.ensures)

pub returns-in-None : goal.returns-in-None
returns-in-None c = λ s agrees.
    ap (λ n. Err (Full n)) c.inserts.ensures
    ∙ next_told c.args.shape.now c.args.held.now s c.args.table c.slots.result c.args.own.now.written None c.head-head.result.now agrees c.in_default.is c.head-head.ensures c.slots.ensures.slots (sym c.in-None.is ∙ c.next_place.ensures)
