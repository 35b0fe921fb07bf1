use Rattle.std.proofs.Common.{◌≡◌, Option, Some, None, rules, refl, sym, ap, ◌∙◌, subst}
use mathlib.Core.Logic.{inl}
use Rattle.event_spec.specs.declared.event.Event.TheVariants as event
use Rattle.event_spec.specs.declared.own.OwnTransaction.{OwnTransaction}
use Rattle.event_spec.specs.declared.reply.Reply.TheVariants as reply
use Rattle.event_spec.specs.Lawful.{HasStamp}
use Rattle.sole_store.specs.Sole.{IsSole, SoleState}
use Rattle.sole_store.proofs.Ending.{ended, may_commit}
use Rattle.sole_store.proofs.Told.{owns_all}
use Rattle.sole_store.proofs.store.SoleStore.commit.Goals as goal

pub invariant_of-self : goal.invariant_of-self
invariant_of-self c =
    let i = c.self.inside in
    let own = c.into_own-own.result in
    let open' : i.opened ≡ Some own = sym c.take.ensures.value ∙ c.in-Some.is ∙ ap (λ (t : OwnTransaction). Some t) (sym c.into_own-own.ensures) in
    let stamp = subst (λ (s : SoleState). HasStamp s.shape s.parts) (sym c.self.view_is) (c.has_stamp.ensures.0 (search rules)) in
    subst (λ (o : Option OwnTransaction). IsSole i.shape c.make.new.hand o) (sym c.take.ensures.after)
    (ended i.shape i.hand c.make.new.hand i.opened c.ending-event.result c.make.result c.self.invariant c.make.ensures.whole c.make.ensures.parts c.make.ensures.told c.make.ensures.memory
    (event.Commit own None) (reply.Committed c.in-Committed.number) None c.ending-event.ensures c.in-Committed.is (may_commit i.shape i.hand i.opened own c.self.invariant open' stamp)
    (inl (ap Some (owns_all i.shape i.hand i.opened own c.self.invariant open').0)) refl).0
