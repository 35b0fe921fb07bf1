use Rattle.std.proofs.Common.{◌∙◌, ◌≤◌, ◌^◌, length, map, ap, sym, subst}
use Rattle.std.specs.Prelude.{count_by, is_some}
use Rattle.block_spec.specs.Bodies.{Body, imaged, is_front, is_sealed, rows_of}
use Rattle.block_spec.specs.Slots.{Slot}
use Rattle.core_events.proofs.Frozen.{front_here, frozen_back, has_the_body, none_in, on_err, room_taken, rows_here, same_back, sealed_here, slots_few}
use Rattle.core_events.proofs.freezing.image.Goals as goal

pub returns-in_default-clause-ok : goal.returns-in_default-clause-ok
returns-in_default-clause-ok c = none_in c.args.shape.now c.args.table c.args.block c.args.image c.args.held.now c.requires c.in_default.is

pub take_body-body-requires : goal.take_body-body-requires
take_body-body-requires c = has_the_body c.args.shape.now c.args.table c.args.block c.args.image c.args.held.now c.requires

pub freeze-frozen-requires-clause-sealed : goal.freeze-frozen-requires-clause-sealed
freeze-frozen-requires-clause-sealed c =
    ap (λ (x : Body). is_sealed x.phase) c.deref_mut.ensures.value
    ∙ sealed_here c.args.shape.now c.args.table c.args.block c.args.image c.args.held.now c.requires c.in-Some.gathered c.in-Some.is c.take_body-body.result.value c.take_body-body.ensures.part

pub freeze-frozen-requires-clause-front : goal.freeze-frozen-requires-clause-front
freeze-frozen-requires-clause-front c =
    ap (λ (x : Body). is_front x.slots) c.deref_mut.ensures.value
    ∙ front_here c.args.shape.now c.args.table c.args.block c.args.image c.args.held.now c.requires c.in-Some.gathered c.in-Some.is c.take_body-body.result.value c.take_body-body.ensures.part

pub freeze-frozen-requires-clause-few : goal.freeze-frozen-requires-clause-few
freeze-frozen-requires-clause-few c =
    subst (λ (x : Body). length x.slots ≤ 2 ^ 15) (sym c.deref_mut.ensures.value)
    (slots_few c.args.shape.now c.args.table c.args.block c.args.image c.args.held.now c.requires c.in-Some.gathered c.in-Some.is c.take_body-body.result.value c.take_body-body.ensures.part)

pub freeze-frozen-requires-clause-rows : goal.freeze-frozen-requires-clause-rows
freeze-frozen-requires-clause-rows c =
    rows_here c.args.shape.now c.args.table c.args.block c.args.image c.args.held.now c.requires c.in-Some.gathered c.in-Some.is c.take_body-body.result.value c.take_body-body.ensures.part
    ∙ ap rows_of (sym c.deref_mut.ensures.value)

pub lay_body-requires-clause-room : goal.lay_body-requires-clause-room
lay_body-requires-clause-room c = room_taken c.args.shape.now c.args.table c.args.block c.args.image c.args.held.now c.requires c.take_body-body.new.held c.take_body-body.ensures.taken

pub returns-in_err-frozen-clause-err : goal.returns-in_err-frozen-clause-err
returns-in_err-frozen-clause-err c =
    on_err c.from_residual.result _
    (same_back c.args.shape.now c.args.table c.args.block c.args.image c.args.held.now c.requires c.in-Some.gathered c.in-Some.is c.take_body-body.result.value c.take_body-body.ensures.part
    c.take_body-body.new.held c.lay_body.new.held c.freeze-frozen.new.body c.take_body-body.ensures.taken c.lay_body.ensures (c.in_err-frozen.ensures.err ∙ c.deref_mut.ensures.value))

pub returns-clause-ok : goal.returns-clause-ok
returns-clause-ok c =
    frozen_back c.args.shape.now c.args.table c.args.block c.args.image c.args.held.now c.requires c.in-Some.gathered c.in-Some.is c.take_body-body.result.value c.take_body-body.ensures.part
    c.take_body-body.new.held c.lay_body.new.held c.freeze-frozen.new.body c.take_body-body.ensures.taken c.lay_body.ensures c.rows-rows.result
    (c.in_ok-frozen.ensures.ok ∙ ap imaged c.deref_mut.ensures.value)
    (c.rows-rows.ensures ∙ ap (λ (x : Body). count_by is_some (map (λ (slot : Slot). slot.row) x.slots)) c.deref.ensures)
