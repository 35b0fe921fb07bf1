use Rattle.std.proofs.Common.{◌∙◌, None, ap, arith, length, sym}
use Rattle.core_parts.proofs.Held.{head_beyond, head_held, no_head, no_slots}
use Rattle.event_spec.specs.Judged.{next_place}
use Rattle.event_spec.specs.Parts.{head_from}
use Rattle.core_parts.proofs.touching.next_place.Goals as goal

pub returns-then-table-tables : goal.returns-then-table-tables
returns-then-table-tables c =
    let l = ap length c.tables.ensures.tables in let f = c.if-table-tables.true in
    no_slots c.args.shape.now c.args.table (omega (arith, l, f)) ∙ no_head c.args.shape.now c.args.held.now c.args.table (omega (arith, l, f))

pub returns-then-number-len : goal.returns-then-number-len
returns-then-number-len c =
    c.first_place.ensures ∙ ap (next_place (head_from None)) c.slots-slots.ensures.slots
    ∙ head_beyond c.args.shape.now c.args.held.now c.args.table c.head-number.result c.head-number.ensures (let l = c.len.ensures in let f = c.if-number-len.true in omega (arith, l, f))

pub returns-in-Some : goal.returns-in-Some
returns-in-Some c =
    c.next_place.ensures ∙ ap (λ h. next_place h c.slots-slots.result) (sym c.in-Some.ensures) ∙ ap (next_place (head_from c.get.result.now)) c.slots-slots.ensures.slots
    ∙ head_held c.args.shape.now c.args.held.now c.args.table c.head-number.result c.get.result.now c.head-number.ensures c.get.ensures

pub returns-in-None : goal.returns-in-None
returns-in-None c =
    c.first_place-in-None.ensures ∙ ap (λ h. next_place h c.slots-slots.result) (sym c.in-None.ensures) ∙ ap (next_place (head_from c.get.result.now)) c.slots-slots.ensures.slots
    ∙ head_held c.args.shape.now c.args.held.now c.args.table c.head-number.result c.get.result.now c.head-number.ensures c.get.ensures
