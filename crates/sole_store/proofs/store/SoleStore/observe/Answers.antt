use Rattle.std.proofs.Common.{refl, sym, subst}
use Rattle.event_spec.specs.declared.event.Event.TheVariants as event
use Rattle.event_spec.specs.declared.reply.Reply.TheVariants as reply
use Rattle.event_spec.specs.Effects.{CoreEvent}
use Rattle.sole_store.specs.Sole.{MayMake}
use Rattle.sole_store.proofs.Told.{always, may_observe, told_as}
use Rattle.sole_store.proofs.store.SoleStore.observe.Goals as goal

pub make-requires : goal.make-requires
make-requires c = subst (MayMake c.args.self.now) (sym c.new-event.ensures) (may_observe c.args.self.now c.args.table c.args.block c.requires)

pub unreachable-requires : goal.unreachable-requires
unreachable-requires c =
    let v = c.args.self.now in
    let e : CoreEvent = event.Observe c.args.table c.args.block in
    c.in_default.not-Turned _ (always v c.make.new.self e c.make.result (told_as v c.make.new.self c.new-event.result c.make.result c.make.ensures e c.make.result c.new-event.ensures refl) refl)

pub returns : goal.returns
returns c =
    told_as c.args.self.now c.make.new.self c.new-event.result c.make.result c.make.ensures (event.Observe c.args.table c.args.block) (reply.Turned c.in-Turned.turned) c.new-event.ensures c.in-Turned.is
