use Rattle.std.proofs.Common.{◌≡◌, false, sym, ap, ◌∙◌, subst}
use mathlib.Core.Logic.{inl, inr}
use Rattle.block_spec.specs.Bodies.{Body, is_imaged}
use Rattle.engine_core.proofs.Wholes.{has_its_body}
use Rattle.event_spec.specs.Lawful.{HasBlock}
use Rattle.event_spec.specs.Parts.{body_at}
use Rattle.sole_store.specs.Sole.{SoleState}
use Rattle.sole_store.proofs.Blocks.{body_there}
use Rattle.sole_store.proofs.store.SoleStore.is_frozen.Goals as goal

pub body-requires : goal.body-requires
body-requires c =
    has_its_body c.self.inside.shape c.self.inside.hand c.self.invariant.whole c.args.table c.args.block
    (subst (λ (v : SoleState). HasBlock v.shape c.args.table c.args.block) (sym c.self.view_is) c.requires)

pub returns-in-Imaged : goal.returns-in-Imaged
returns-in-Imaged c =
    let i = c.self.inside in
    sym (ap is_imaged (sym c.phase.ensures ∙ c.in-Imaged.is))
    ∙ ap (λ (b : Body). is_imaged b.phase) (sym (body_there i.shape i.hand c.self.invariant.whole c.args.table c.args.block c.body.result.now c.body.ensures))
    ∙ ap (λ (v : SoleState). is_imaged (body_at v.shape v.parts c.args.table c.args.block).phase) c.self.view_is

pub returns-in-Loose : goal.returns-in-Loose
returns-in-Loose c =
    let i = c.self.inside in
    let loose : is_imaged c.body.result.now.phase ≡ false = elim c.in-Loose.is [ inl e ↦ ap is_imaged (sym c.phase.ensures ∙ e) | inr x ↦ ap is_imaged (sym c.phase.ensures ∙ x.1) ] in
    sym loose
    ∙ ap (λ (b : Body). is_imaged b.phase) (sym (body_there i.shape i.hand c.self.invariant.whole c.args.table c.args.block c.body.result.now c.body.ensures))
    ∙ ap (λ (v : SoleState). is_imaged (body_at v.shape v.parts c.args.table c.args.block).phase) c.self.view_is
