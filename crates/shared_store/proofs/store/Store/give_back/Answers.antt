use Rattle.std.proofs.Common.{ℕ, sym, subst}
use Rattle.event_spec.specs.Effects.{CoreEvent}
use Rattle.event_spec.specs.Lawful.{Opened}
use Rattle.event_spec.specs.Parts.{CorePart}
use Rattle.hall_rule.specs.Meaning.{Meaning}
use Rattle.hall_steps.specs.Hall.{IsPass}
use Rattle.shared_store.specs.Making.{Gives}
use Rattle.shared_store.specs.Store.{IsAnyWithin, IsWithin, StoreView}
use Rattle.shared_store.proofs.Made.{gave_back}
use Rattle.shared_store.proofs.Sessions.{is_meaning}
use Rattle.shared_store.proofs.store.Store.give_back.Goals as goal

pub give_all-requires-clause-pass : goal.give_all-requires-clause-pass
give_all-requires-clause-pass c κs =
    let h = c.self.inside.hall in
    let s = c.args.pass.now in
    let any = subst (λ (st : StoreView). IsAnyWithin st s.seat s.hands) (sym c.self.view_is) c.requires in
    subst (λ (m : Meaning CorePart CoreEvent Opened ℕ). IsPass m h.id s.seat s.hands) (sym (is_meaning h c.self.invariant)) any.2.pass

pub returns : goal.returns
returns c session own within =
    let h = c.self.inside.hall in
    let u = c.args.pass.now in
    let w = c.give_all.new.pass in
    let left = subst (λ (m : Meaning CorePart CoreEvent Opened ℕ). IsPass m h.id w.seat w.hands) (is_meaning h c.self.invariant) c.give_all.ensures.pass in
    let here = subst (λ (st : StoreView). IsWithin st session u.seat u.hands own) (sym c.self.view_is) within in
    subst (λ (st : StoreView). Gives st session u.seat w.seat w.hands own) c.self.view_is
    (gave_back h session u.seat w.seat u.hands w.hands own here left c.give_all.ensures.view c.give_all.ensures.empty)
