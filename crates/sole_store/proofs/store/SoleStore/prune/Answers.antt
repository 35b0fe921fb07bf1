use Rattle.std.proofs.Common.{refl, sym, subst}
use Rattle.event_spec.specs.declared.event.Event.TheVariants as event
use Rattle.event_spec.specs.Effects.{CoreEvent}
use Rattle.sole_store.specs.Sole.{MayMake}
use Rattle.sole_store.proofs.Told.{always, may_prune, told_as}
use Rattle.sole_store.proofs.store.SoleStore.prune.Goals as goal

pub make-requires : goal.make-requires
make-requires c = subst (MayMake c.args.self.now) (sym c.new-event.ensures) (may_prune c.args.self.now c.args.table c.args.block c.oldest-oldest.result c.requires c.oldest-oldest.ensures)

pub unreachable-requires : goal.unreachable-requires
unreachable-requires c =
    let v = c.args.self.now in
    let e : CoreEvent = event.Prune c.args.table c.args.block c.oldest-oldest.result in
    c.in_default.not-Dropped _ (always v c.make.new.self e c.make.result (told_as v c.make.new.self c.new-event.result c.make.result c.make.ensures e c.make.result c.new-event.ensures refl) refl)
