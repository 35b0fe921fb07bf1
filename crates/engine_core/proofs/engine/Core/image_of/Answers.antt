use Rattle.std.proofs.Common.{IfOk, sym, subst}
use Rattle.engine_core.proofs.Asked.{image_of_whole}
use Rattle.engine_core.proofs.Wholes.{has_its_body}
use Rattle.engine_core.specs.Core.{CoreState}
use Rattle.event_spec.specs.Lawful.{HasBlock, IsImageOf}
use Rattle.event_spec.specs.Parts.{body_at}
use Rattle.engine_core.proofs.engine.Core.image_of.Goals as goal

pub image_of-requires-clause-body : goal.image_of-requires-clause-body
image_of-requires-clause-body g c κs within =
    has_its_body c.self.inside.shape c.self.inside.hand c.self.invariant c.args.table c.args.block
    (subst (λ (v : CoreState). HasBlock v.shape c.args.table c.args.block) (sym c.self.view_is) c.requires)

pub returns : goal.returns
returns g c =
    subst (λ (v : CoreState). IfOk c.image_of.result (λ image. IsImageOf image (body_at v.shape v.parts c.args.table c.args.block) (body_at v.shape v.parts c.args.table c.args.block).phase)) c.self.view_is
    (image_of_whole c.self.inside.shape c.self.inside.hand c.args.table c.args.block c.self.invariant c.image_of.result c.image_of.ensures)
