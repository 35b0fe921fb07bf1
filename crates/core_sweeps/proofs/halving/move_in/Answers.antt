use Rattle.std.proofs.Common.{◌≡◌, None, sym, subst}
use Rattle.block_layout.specs.Place.{block_of, slot_of}
use Rattle.block_spec.specs.Bodies.{with_slot}
use Rattle.block_spec.specs.Slots.{moved_in}
use Rattle.core_sweeps.proofs.Halves.{body_as_was, on_err, on_ok, slot_back}
use Rattle.core_sweeps.specs.MoveSteps.{come}
use Rattle.core_parts.proofs.Telling.{body_there}
use Rattle.core_parts.specs.Hands.{after}
use Rattle.core_sweeps.proofs.Handing.{room_taken}
use Rattle.event_spec.specs.Lawful.{HasBlock}
use Rattle.event_spec.specs.Parts.{BodyOf}
use Rattle.core_sweeps.proofs.halving.move_in.Goals as goal

pub lay_body-requires-clause-block : goal.lay_body-requires-clause-block
lay_body-requires-clause-block c = subst (HasBlock c.args.shape.now c.args.table) (sym c.block-block.ensures.block) (body_there c.args.shape.now c.args.held.now c.args.table (block_of c.args.place) c.requires.body)

pub lay_body-requires-clause-room : goal.lay_body-requires-clause-room
lay_body-requires-clause-room c = room_taken c.args.shape.now c.args.held.now c.take_body-body.new.held (BodyOf c.args.table c.block-block.result) None c.take_body-body.ensures.taken c.requires.room

pub returns-clause-ok : goal.returns-clause-ok
returns-clause-ok c =
    on_ok c.move_in-moved.result (c.move_in-moved.new.self ≡ with_slot c.slot.result (moved_in c.args.stamp c.args.row) c.deref_mut.result.now)
    (c.lay_body.new.held ≡ after c.args.shape.now (come c.args.table c.args.place c.args.row c.args.stamp) c.args.held.now)
    (λ made. slot_back c.args.shape.now c.args.table c.block-block.result (block_of c.args.place) c.slot.result (slot_of c.args.place) (λ j. with_slot j (moved_in c.args.stamp c.args.row)) c.args.held.now c.take_body-body.new.held c.lay_body.new.held c.take_body-body.result.value c.deref_mut.result.now c.move_in-moved.new.self c.block-block.ensures.block c.slot.ensures.slot c.take_body-body.ensures.part c.take_body-body.ensures.taken c.deref_mut.ensures.value made c.lay_body.ensures)
    c.move_in-moved.ensures.ok

pub returns-clause-err : goal.returns-clause-err
returns-clause-err c =
    on_err c.move_in-moved.result (c.move_in-moved.new.self ≡ c.deref_mut.result.now) (c.lay_body.new.held ≡ c.args.held.now)
    (λ same. body_as_was c.args.shape.now c.args.table c.block-block.result c.args.held.now c.take_body-body.new.held c.lay_body.new.held c.take_body-body.result.value c.deref_mut.result.now c.move_in-moved.new.self c.take_body-body.ensures.part c.take_body-body.ensures.taken c.deref_mut.ensures.value same c.lay_body.ensures)
    c.move_in-moved.ensures.err
