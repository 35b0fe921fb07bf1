use Rattle.std.proofs.Common.{◌≡◌, ℕ, true, sym, subst}
use Rattle.event_spec.specs.Effects.{CoreEvent}
use Rattle.event_spec.specs.Lawful.{Opened}
use Rattle.event_spec.specs.Parts.{CorePart, Shape}
use Rattle.event_spec.specs.Touched.{touching}
use Rattle.hall_rule.specs.Hands.{Covers, Holds}
use Rattle.hall_rule.specs.Meaning.{Meaning}
use Rattle.hall_steps.specs.Hall.{IsPass, SeesMore, first_of}
use Rattle.shared_store.specs.Making.{Takes}
use Rattle.shared_store.specs.Store.{IsAnyAt, IsAt, StoreView, shape_in}
use Rattle.shared_store.proofs.Made.{taken_event}
use Rattle.shared_store.proofs.Sessions.{is_meaning}
use Rattle.shared_store.proofs.store.Store.take_for.Goals as goal

pub take_all-requires-clause-pass : goal.take_all-requires-clause-pass
take_all-requires-clause-pass g c κs within =
    let h = c.self.inside.hall in
    let s = c.args.pass.now in
    let any = subst (λ (st : StoreView). IsAnyAt st s.seat s.hands) (sym c.self.view_is) c.requires in
    subst (λ (m : Meaning CorePart CoreEvent Opened ℕ). IsPass m h.id s.seat s.hands) (sym (is_meaning h c.self.invariant)) any.2.within.pass

pub returns-clause-only : goal.returns-clause-only
returns-clause-only g c =
    let t = c.take_all.new.pass in
    let e = c.args.event.now in
    let only = subst (λ (sh : Shape). (k : ℕ) → Holds (first_of t.hands) k → touching sh e (first_of t.hands) k ≡ true) c.self.invariant.shape c.take_all.ensures.only in
    subst (λ (st : StoreView). (k : ℕ) → Holds (first_of t.hands) k → touching (shape_in st) e (first_of t.hands) k ≡ true) c.self.view_is only

pub returns-clause-takes : goal.returns-clause-takes
returns-clause-takes g c session own at' =
    let h = c.self.inside.hall in
    let s = c.args.pass.now in
    let t = c.take_all.new.pass in
    let e = c.args.event.now in
    let same = is_meaning h c.self.invariant in
    let there = subst (λ (m : Meaning CorePart CoreEvent Opened ℕ). IsPass m h.id t.seat t.hands) same c.take_all.ensures.pass in
    let sees = subst (λ (m : Meaning CorePart CoreEvent Opened ℕ). SeesMore m s.seat.me.0 t.seat.me.0) same c.take_all.ensures.seen in
    let covers = subst (λ (sh : Shape). Covers (touching sh e) (first_of t.hands)) c.self.invariant.shape c.take_all.ensures.covered in
    let only = subst (λ (sh : Shape). (k : ℕ) → Holds (first_of t.hands) k → touching sh e (first_of t.hands) k ≡ true) c.self.invariant.shape c.take_all.ensures.only in
    let here = subst (λ (st : StoreView). IsAt st session s.seat s.hands own) (sym c.self.view_is) at' in
    subst (λ (st : StoreView). Takes st session s.seat t.seat t.hands own e) c.self.view_is
    (taken_event h s.seat t.seat s.hands t.hands e there c.take_all.ensures.seat sees session own here.within covers only c.take_all.ensures.taken)
