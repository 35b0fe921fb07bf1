use Rattle.std.proofs.Common.{◌≡◌, ap, ◌∙◌, sym, refl}
use Rattle.block_spec.specs.Bodies.{Body, is_imaged, thawed}
use Rattle.core_events.proofs.Alone.{body_back, ok_then, err_then, one_body, room_taken}
use Rattle.core_parts.proofs.Telling.{body_is, has_body}
use Rattle.event_spec.specs.declared.event.Event.TheVariants as event
use Rattle.event_spec.specs.declared.reply.Reply.TheVariants as reply
use Rattle.event_spec.specs.Parts.{BodyOf}
use Rattle.core_laws.proofs.Frames.Looks.{name_self}
use Rattle.core_events.proofs.blocks.thaw.Goals as goal

pub take_body-body-requires : goal.take_body-body-requires
take_body-body-requires c = has_body c.args.shape.now (event.Thaw c.args.table c.args.block) c.args.held.now c.requires c.args.table c.args.block c.requires.lawful.1.0 (name_self (BodyOf c.args.table c.args.block))

pub lay_body-requires-clause-room : goal.lay_body-requires-clause-room
lay_body-requires-clause-room c = room_taken c.args.shape.now (event.Thaw c.args.table c.args.block) c.args.held.now c.requires (BodyOf c.args.table c.args.block) c.take_body-body.new.held c.take_body-body.ensures.taken

pub returns-clause-ok : goal.returns-clause-ok
returns-clause-ok c =
    ok_then c.thaw-thawed.result (c.thaw-thawed.new.self ≡ thawed c.deref_mut.result.now) _ c.thaw-thawed.ensures.ok (λ done is.
    one_body c.args.shape.now (event.Thaw c.args.table c.args.block) c.args.held.now c.requires c.args.table c.args.block c.take_body-body.new.held c.lay_body.new.held c.take_body-body.result.value c.thaw-thawed.new.self
    thawed reply.Thawed c.take_body-body.ensures.part c.take_body-body.ensures.taken c.lay_body.ensures (is ∙ ap thawed c.deref_mut.ensures.value) refl refl)

pub returns-clause-err : goal.returns-clause-err
returns-clause-err c =
    err_then c.thaw-thawed.result (c.thaw-thawed.new.self ≡ c.deref_mut.result.now) (c.lay_body.new.held ≡ c.args.held.now) c.thaw-thawed.ensures.err (λ is.
    body_back c.args.shape.now (event.Thaw c.args.table c.args.block) c.args.held.now c.requires c.args.table c.args.block c.take_body-body.new.held c.lay_body.new.held c.take_body-body.result.value c.thaw-thawed.new.self
    c.take_body-body.ensures.part c.take_body-body.ensures.taken c.lay_body.ensures (is ∙ c.deref_mut.ensures.value))

pub thaw-thawed-requires : goal.thaw-thawed-requires
thaw-thawed-requires c =
    ap (λ (b : Body). is_imaged b.phase) (c.deref_mut.ensures.value ∙ sym (body_is c.args.shape.now c.args.held.now c.requires.parts c.requires.agrees c.args.table c.args.block c.take_body-body.result.value c.take_body-body.ensures.part))
    ∙ c.requires.lawful.1.1
