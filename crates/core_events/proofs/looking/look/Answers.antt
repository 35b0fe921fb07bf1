use Rattle.std.proofs.Common.{◌≡◌, ◌∙◌, true, ap, sym, refl, subst}
use Rattle.std.proofs.lemmas.Result.{IfOk-weaker}
use Rattle.block_spec.specs.Looks.{Look, looked}
use Rattle.cell_model.specs.Schemas.{begins_with_key}
use Rattle.core_parts.proofs.Telling.{body_is, has_body, only_told}
use Rattle.core_events.proofs.Bodies.{has_keys}
use Rattle.event_spec.specs.declared.event.Event.TheVariants as event
use Rattle.event_spec.specs.declared.reply.Reply.TheVariants as reply
use Rattle.event_spec.specs.Parts.{BodyOf}
use Rattle.event_spec.specs.Sound.{BodyHolds}
use Rattle.core_laws.proofs.Frames.Looks.{name_self}
use Rattle.core_events.proofs.looking.look.Goals as goal

pub body-requires : goal.body-requires
body-requires c = has_body c.args.shape.now (event.Look c.args.table c.args.block) c.args.held.now c.requires c.args.table c.args.block c.requires.lawful.1 (name_self (BodyOf c.args.table c.args.block))

pub look-requires : goal.look-requires
look-requires c =
    let here = body_is c.args.shape.now c.args.held.now c.requires.parts c.requires.agrees c.args.table c.args.block c.body.result.now c.body.ensures in
    has_keys c.args.shape.now c.args.table c.body.result.now
    (subst (BodyHolds c.args.shape.now c.args.table) here (c.requires.holds.sound.bodies c.args.table c.args.block c.requires.lawful.1))
    (subst (λ columns. begins_with_key columns ≡ true) c.schema-schema.ensures.columns c.schema-schema.ensures.schema.key)

pub returns : goal.returns
returns c =
    let here = body_is c.args.shape.now c.args.held.now c.requires.parts c.requires.agrees c.args.table c.args.block c.body.result.now c.body.ensures in
    IfOk-weaker c.look.result (λ (found : Look). found ≡ looked c.body.result.now) _
    (λ found is. only_told c.args.shape.now (event.Look c.args.table c.args.block) c.args.held.now (reply.Looked found) c.requires refl
    (ap reply.Looked (is ∙ ap looked (sym here))))
    c.look.ensures
