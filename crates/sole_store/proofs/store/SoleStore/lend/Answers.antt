use Rattle.std.proofs.Common.{◌≡◌, IfOk, Some, None, cond, sym, subst}
use Rattle.block_spec.specs.Bodies.{is_imaged, rows_of}
use Rattle.engine_core.proofs.Wholes.{has_its_body}
use Rattle.event_spec.specs.Lawful.{HasBlock}
use Rattle.event_spec.specs.Parts.{body_at}
use Rattle.sole_store.specs.Sole.{SoleState}
use Rattle.sole_store.proofs.Blocks.{lent_of, of_core}
use Rattle.sole_store.proofs.store.SoleStore.lend.Goals as goal

pub shared-requires-clause-body : goal.shared-requires-clause-body
shared-requires-clause-body c =
    has_its_body c.self.inside.shape c.self.inside.hand c.self.invariant.whole c.args.table c.args.block
    (subst (λ (v : SoleState). HasBlock v.shape c.args.table c.args.block) (sym c.self.view_is) c.requires)

pub shared-requires-clause-core : goal.shared-requires-clause-core
shared-requires-clause-core c =
    let core = of_core c.self.inside.shape c.self.inside.hand c.self.invariant.whole in (core.parts, core.holds, core.agrees)

pub returns : goal.returns
returns c =
    subst (λ (v : SoleState). IfOk c.shared.result (λ lent. lent ≡ cond (is_imaged (body_at v.shape v.parts c.args.table c.args.block).phase)
    (Some (rows_of (body_at v.shape v.parts c.args.table c.args.block))) None)) c.self.view_is
    (lent_of c.self.inside.shape c.self.inside.hand c.self.invariant.whole c.args.table c.args.block c.shared.result c.shared.ensures)
