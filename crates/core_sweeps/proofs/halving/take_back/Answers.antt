use Rattle.std.proofs.Common.{None, sym, subst}
use Rattle.block_layout.specs.Place.{block_of, slot_of}
use Rattle.block_spec.specs.Bodies.{taken_back_in}
use Rattle.core_sweeps.proofs.Halves.{slot_back}
use Rattle.core_parts.proofs.Telling.{body_there}
use Rattle.core_sweeps.proofs.Handing.{room_taken}
use Rattle.event_spec.specs.Lawful.{HasBlock}
use Rattle.event_spec.specs.Parts.{BodyOf}
use Rattle.core_sweeps.proofs.halving.take_back.Goals as goal

pub lay_body-requires-clause-block : goal.lay_body-requires-clause-block
lay_body-requires-clause-block c = subst (HasBlock c.args.shape.now c.args.table) (sym c.block-block.ensures.block) (body_there c.args.shape.now c.args.held.now c.args.table (block_of c.args.place) c.requires.body)

pub lay_body-requires-clause-room : goal.lay_body-requires-clause-room
lay_body-requires-clause-room c = room_taken c.args.shape.now c.args.held.now c.take_body-body.new.held (BodyOf c.args.table c.block-block.result) None c.take_body-body.ensures.taken c.requires.room

pub returns : goal.returns
returns c = slot_back c.args.shape.now c.args.table c.block-block.result (block_of c.args.place) c.slot.result (slot_of c.args.place) taken_back_in c.args.held.now c.take_body-body.new.held c.lay_body.new.held c.take_body-body.result.value c.deref_mut.result.now c.take_back.new.self c.block-block.ensures.block c.slot.ensures.slot c.take_body-body.ensures.part c.take_body-body.ensures.taken c.deref_mut.ensures.value c.take_back.ensures c.lay_body.ensures
