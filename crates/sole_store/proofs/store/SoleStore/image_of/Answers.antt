use Rattle.std.proofs.Common.{IfOk, sym, subst}
use Rattle.engine_core.proofs.Asked.{image_of_whole}
use Rattle.engine_core.proofs.Wholes.{has_its_body}
use Rattle.event_spec.specs.Lawful.{HasBlock, IsImageOf}
use Rattle.event_spec.specs.Parts.{body_at}
use Rattle.sole_store.specs.Sole.{SoleState}
use Rattle.sole_store.proofs.Blocks.{of_core}
use Rattle.sole_store.proofs.store.SoleStore.image_of.Goals as goal

pub image_in-requires-clause-core : goal.image_in-requires-clause-core
image_in-requires-clause-core c = of_core c.self.inside.shape c.self.inside.hand c.self.invariant.whole

pub image_in-requires-clause-body : goal.image_in-requires-clause-body
image_in-requires-clause-body c =
    has_its_body c.self.inside.shape c.self.inside.hand c.self.invariant.whole c.args.table c.args.block
    (subst (λ (v : SoleState). HasBlock v.shape c.args.table c.args.block) (sym c.self.view_is) c.requires)

pub returns : goal.returns
returns c =
    subst (λ (v : SoleState). IfOk c.image_in.result (λ image. IsImageOf image (body_at v.shape v.parts c.args.table c.args.block) (body_at v.shape v.parts c.args.table c.args.block).phase)) c.self.view_is
    (image_of_whole c.self.inside.shape c.self.inside.hand c.args.table c.args.block c.self.invariant.whole c.image_in.result c.image_in.ensures)
