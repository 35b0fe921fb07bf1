use Rattle.std.proofs.Common.{◌==◌, false, ap, ◌∙◌, sym}
use Rattle.std.proofs.lemmas.Bool.{or_left, or_right}
use Rattle.block_spec.specs.Bodies.{observed, turns}
use Rattle.core_events.proofs.Alone.{head_told, one_body, room_taken}
use Rattle.core_parts.proofs.Changing.{body_change}
use Rattle.core_parts.proofs.Telling.{body_is, has_body, has_head}
use Rattle.core_laws.proofs.Events.Slots.{num_refl}
use Rattle.event_spec.specs.declared.event.Event.TheVariants as event
use Rattle.event_spec.specs.declared.reply.Reply.TheVariants as reply
use Rattle.event_spec.specs.Parts.{BodyOf, body_at}
use Rattle.core_laws.proofs.Frames.Looks.{name_self}
use Rattle.core_events.proofs.blocks.observe.Goals as goal

pub head-requires : goal.head-requires
head-requires c = has_head c.args.shape.now (event.Observe c.args.table c.args.block) c.args.held.now c.requires c.args.table c.requires.lawful.1.0 (or_left _ _ (num_refl c.args.table))

pub take_body-body-requires : goal.take_body-body-requires
take_body-body-requires c = has_body c.args.shape.now (event.Observe c.args.table c.args.block) c.args.held.now c.requires c.args.table c.args.block c.requires.lawful.1 (or_right false _ (name_self (BodyOf c.args.table c.args.block)))

pub lay_body-requires-clause-room : goal.lay_body-requires-clause-room
lay_body-requires-clause-room c = room_taken c.args.shape.now (event.Observe c.args.table c.args.block) c.args.held.now c.requires (BodyOf c.args.table c.args.block) c.take_body-body.new.held c.take_body-body.ensures.taken

pub returns : goal.returns
returns c =
    let sh = c.args.shape.now in let hand = c.args.held.now in let e = event.Observe c.args.table c.args.block in
    let told = head_told sh e hand c.requires c.args.table c.args.block c.head.result.now c.head.ensures ∙ ap (λ n. c.args.block == n) (sym c.block.ensures) in
    one_body sh e hand c.requires c.args.table c.args.block c.take_body-body.new.held c.lay_body.new.held c.take_body-body.result.value c.observe-turned.new.self
    (observed (c.args.block == c.block.result)) (reply.Turned c.observe-turned.result) c.take_body-body.ensures.part c.take_body-body.ensures.taken c.lay_body.ensures
    (c.observe-turned.ensures.observed ∙ ap (observed (c.args.block == c.block.result)) c.deref_mut.ensures.value)
    (ap (λ b. body_change c.args.table c.args.block (observed b)) told)
    (ap reply.Turned (c.observe-turned.ensures.turns ∙ ap (turns (c.args.block == c.block.result)) (c.deref_mut.ensures.value ∙ sym (body_is sh hand c.requires.parts c.requires.agrees c.args.table c.args.block c.take_body-body.result.value c.take_body-body.ensures.part))
    ∙ ap (λ b. turns b (body_at sh c.requires.parts c.args.table c.args.block)) (sym told)))
