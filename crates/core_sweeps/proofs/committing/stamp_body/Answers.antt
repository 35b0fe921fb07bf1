use Rattle.std.proofs.Common.{None, ℕ, ap, ◌∙◌, sym, subst}
use Rattle.block_spec.specs.Bodies.{Body, committed_in, slot_in}
use Rattle.core_parts.proofs.Telling.{body_there}
use Rattle.core_sweeps.proofs.Handing.{body_back, body_is_in, room_taken}
use Rattle.event_spec.specs.Parts.{BodyOf}
use Rattle.undo_chain.specs.Lawful.{NoneStampedAbove}
use Rattle.core_sweeps.proofs.committing.stamp_body.Goals as goal

pub stamp-requires : goal.stamp-requires
stamp-requires c =
    subst (λ (x : Body). (slot : ℕ) → NoneStampedAbove (slot_in x slot).entries c.args.stamp)
    (body_is_in c.args.shape.now c.args.held.now c.args.table c.args.block c.take_body-body.result.value c.take_body-body.ensures.part ∙ sym c.deref_mut.ensures.value) c.requires.stamps

pub lay_body-requires-clause-block : goal.lay_body-requires-clause-block
lay_body-requires-clause-block c = body_there c.args.shape.now c.args.held.now c.args.table c.args.block c.requires.body

pub lay_body-requires-clause-room : goal.lay_body-requires-clause-room
lay_body-requires-clause-room c = room_taken c.args.shape.now c.args.held.now c.take_body-body.new.held (BodyOf c.args.table c.args.block) None c.take_body-body.ensures.taken c.requires.room

pub returns : goal.returns
returns c =
    body_back c.args.shape.now c.args.table c.args.block (committed_in c.args.session c.args.stamp c.args.number) c.args.held.now c.take_body-body.new.held c.lay_body.new.held
    c.take_body-body.result.value c.stamp.new.self c.take_body-body.ensures.part c.take_body-body.ensures.taken
    (c.stamp.ensures ∙ ap (committed_in c.args.session c.args.stamp c.args.number) c.deref_mut.ensures.value) c.lay_body.ensures
