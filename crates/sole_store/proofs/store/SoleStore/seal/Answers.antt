use Rattle.std.proofs.Common.{refl, sym, subst}
use Rattle.block_spec.specs.Bodies.{seal_fault}
use Rattle.event_spec.specs.declared.event.Event.TheVariants as event
use Rattle.event_spec.specs.Effects.{CoreEvent}
use Rattle.event_spec.specs.Parts.{body_at, is_head}
use Rattle.sole_store.specs.Sole.{MayMake}
use Rattle.sole_store.proofs.Told.{always, may_seal, seals_tell, told_as}
use Rattle.sole_store.proofs.store.SoleStore.seal.Goals as goal

pub make-requires : goal.make-requires
make-requires c = subst (MayMake c.args.self.now) (sym c.new-event.ensures) (may_seal c.args.self.now c.args.table c.args.block c.requires)

pub unreachable-requires : goal.unreachable-requires
unreachable-requires c =
    let v = c.args.self.now in
    let e : CoreEvent = event.Seal c.args.table c.args.block in
    let body = body_at v.shape v.parts c.args.table c.args.block in
    seals_tell (seal_fault (is_head v.shape v.parts c.args.table c.args.block) body) body.last c.make.result
    (always v c.make.new.self e c.make.result (told_as v c.make.new.self c.new-event.result c.make.result c.make.ensures e c.make.result c.new-event.ensures refl) refl)
    c.in_default.not-Sealed c.in_default.not-NotSealed
