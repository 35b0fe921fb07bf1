use Rattle.std.proofs.Common.{◌≡◌, Option, Some, None, refl, sym, ap, ◌∙◌, subst}
use mathlib.Core.Logic.{inl}
use Rattle.event_spec.specs.declared.event.Event.TheVariants as event
use Rattle.event_spec.specs.declared.own.OwnTransaction.{OwnTransaction}
use Rattle.event_spec.specs.declared.reply.Reply.TheVariants as reply
use Rattle.sole_store.specs.Sole.{IsSole}
use Rattle.sole_store.proofs.Ending.{ended, may_abort}
use Rattle.sole_store.proofs.Told.{owns_all}
use Rattle.sole_store.proofs.store.SoleStore.abort.Goals as goal

pub invariant_of-self : goal.invariant_of-self
invariant_of-self c =
    let i = c.self.inside in
    let own = c.into_own-own.result in
    let open' : i.opened ≡ Some own = sym c.take.ensures.value ∙ c.in-Some.is ∙ ap (λ (t : OwnTransaction). Some t) (sym c.into_own-own.ensures) in
    subst (λ (o : Option OwnTransaction). IsSole i.shape c.make.new.hand o) (sym c.take.ensures.after)
    (ended i.shape i.hand c.make.new.hand i.opened c.ending-event.result c.make.result c.self.invariant c.make.ensures.whole c.make.ensures.parts c.make.ensures.told c.make.ensures.memory
    (event.Abort own) reply.Aborted None c.ending-event.ensures c.in-Aborted.is (may_abort i.shape i.hand i.opened own c.self.invariant open')
    (inl (ap Some (owns_all i.shape i.hand i.opened own c.self.invariant open').0)) refl).0
