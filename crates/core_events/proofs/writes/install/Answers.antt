use Rattle.std.proofs.Common.{◌≡◌, sym, subst}
use Rattle.std.specs.Prelude.{OnOk}
use Rattle.block_layout.specs.Place.{block_of, slot_of}
use Rattle.block_spec.specs.Bodies.{with_slot}
use Rattle.block_spec.specs.Slots.{written}
use Rattle.core_parts.proofs.Telling.{body_there}
use Rattle.core_parts.specs.Hands.{after}
use Rattle.event_spec.specs.Lawful.{HasBlock}
use Rattle.event_spec.specs.Parts.{BodyOf}
use Rattle.core_events.specs.Writes.{of_body}
use Rattle.core_events.proofs.Taking.{body_done, body_kept, still_room}
use Rattle.core_events.proofs.writes.install.Goals as goal

pub lay_body-requires-clause-block : goal.lay_body-requires-clause-block
lay_body-requires-clause-block c = subst (λ b. HasBlock c.args.shape.now c.args.table b) (sym c.block-number.ensures.block) (body_there c.args.shape.now c.args.held.now c.args.table (block_of c.args.place) c.requires.takes.body)

pub lay_body-requires-clause-room : goal.lay_body-requires-clause-room
lay_body-requires-clause-room c = still_room c.args.shape.now c.args.held.now c.take_body-body.new.held (BodyOf c.args.table c.block-number.result) c.requires.room c.take_body-body.ensures.taken

pub returns-clause-ok : goal.returns-clause-ok
returns-clause-ok c =
    let sh = c.args.shape.now in let hand = c.args.held.now in let new = c.lay_body.new.held in let r = c.install-done.result in
    subst (λ b. OnOk r (new ≡ after sh (of_body c.args.table b (with_slot (slot_of c.args.place) (written c.args.session c.args.change))) hand)) c.block-number.ensures.block
    (subst (λ j. OnOk r (new ≡ after sh (of_body c.args.table c.block-number.result (with_slot j (written c.args.session c.args.change))) hand)) c.slot.ensures.slot
    (body_done sh hand c.take_body-body.new.held new r c.args.table c.block-number.result c.take_body-body.result.value c.install-done.new.self c.deref_mut.result.now
    (with_slot c.slot.result (written c.args.session c.args.change)) c.take_body-body.ensures.part c.take_body-body.ensures.taken c.lay_body.ensures c.deref_mut.ensures.value c.install-done.ensures.ok))

pub returns-clause-err : goal.returns-clause-err
returns-clause-err c = body_kept c.args.shape.now c.args.held.now c.take_body-body.new.held c.lay_body.new.held c.install-done.result c.args.table c.block-number.result c.take_body-body.result.value c.install-done.new.self c.deref_mut.result.now
    c.take_body-body.ensures.part c.take_body-body.ensures.taken c.lay_body.ensures c.deref_mut.ensures.value c.install-done.ensures.err
