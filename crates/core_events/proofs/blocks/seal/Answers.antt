use Rattle.std.proofs.Common.{◌≡◌, ◌+◌, ◌==◌, IfErr, IfOk, OnErr, OnOk, false, Some, None, subst}
use Rattle.std.proofs.lemmas.Bool.{or_left, or_right}
use Rattle.block_spec.specs.Bodies.{Body, seal_fault, sealed}
use Rattle.core_events.proofs.Alone.{seal_makes, room_taken}
use Rattle.core_parts.proofs.Telling.{has_body, has_head}
use Rattle.core_laws.proofs.Events.Slots.{num_refl}
use Rattle.event_spec.specs.declared.event.Event.TheVariants as event
use Rattle.event_spec.specs.Parts.{BodyOf}
use Rattle.core_laws.proofs.Frames.Looks.{name_self}
use Rattle.core_events.proofs.blocks.seal.Goals as goal

pub head-requires : goal.head-requires
head-requires c = has_head c.args.shape.now (event.Seal c.args.table c.args.block) c.args.held.now c.requires c.args.table c.requires.lawful.1.0 (or_left _ _ (num_refl c.args.table))

pub take_body-body-requires : goal.take_body-body-requires
take_body-body-requires c = has_body c.args.shape.now (event.Seal c.args.table c.args.block) c.args.held.now c.requires c.args.table c.args.block c.requires.lawful.1 (or_right false _ (name_self (BodyOf c.args.table c.args.block)))

pub lay_body-requires-clause-room : goal.lay_body-requires-clause-room
lay_body-requires-clause-room c = room_taken c.args.shape.now (event.Seal c.args.table c.args.block) c.args.held.now c.requires (BodyOf c.args.table c.args.block) c.take_body-body.new.held c.take_body-body.ensures.taken

pub returns : goal.returns
returns c =
    let x = c.take_body-body.result.value in let same = c.deref_mut.ensures.value in
    seal_makes c.args.shape.now c.args.table c.args.block c.args.held.now c.take_body-body.new.held c.lay_body.new.held c.requires c.head.result.now x c.seal-sealed.new.self
    c.head.ensures c.take_body-body.ensures.part c.take_body-body.ensures.taken c.lay_body.ensures c.seal-sealed.result
    (subst (λ (z : Body). OnOk c.seal-sealed.result (c.seal-sealed.new.self ≡ sealed z)) same c.seal-sealed.ensures.sealed)
    (subst (λ (z : Body). IfOk c.seal-sealed.result (λ stamp. stamp ≡ z.last + 1)) same c.seal-sealed.ensures.stamp)
    (subst (λ n. OnOk c.seal-sealed.result (seal_fault (c.args.block == n) x ≡ None)) c.block.ensures (subst (λ (z : Body). OnOk c.seal-sealed.result (seal_fault (c.args.block == c.block.result) z ≡ None)) same c.seal-sealed.ensures.lawful))
    (subst (λ n. IfErr c.seal-sealed.result (λ fault. seal_fault (c.args.block == n) x ≡ Some fault)) c.block.ensures (subst (λ (z : Body). IfErr c.seal-sealed.result (λ fault. seal_fault (c.args.block == c.block.result) z ≡ Some fault)) same c.seal-sealed.ensures.fault))
    (subst (λ (z : Body). OnErr c.seal-sealed.result (c.seal-sealed.new.self ≡ z)) same c.seal-sealed.ensures.same)
