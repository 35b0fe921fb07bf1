use Rattle.std.proofs.Common.{◌≡◌, ◌+◌, Some, refl, sym, ap, subst, ◌∙◌}
use mathlib.Core.Logic.{inr}
use Rattle.std.specs.Prelude.{slice_get}
use Rattle.core_laws.specs.Words.Words.{word_of}
use Rattle.event_spec.specs.declared.event.Event.TheVariants as event
use Rattle.event_spec.specs.Effects.{CoreEvent}
use Rattle.event_spec.specs.Parts.{BodyOf, CorePart, Shape, names}
use Rattle.hall_rule.specs.Heads.{IsFrozen, head_of}
use Rattle.hall_steps.specs.Hall.{IsPass, IsPassAt}
use Rattle.store_laws.specs.Laws.{IsOfSession}
use Rattle.store_laws.specs.Logs.{store_meaning}
use Rattle.shared_store.specs.Making.{MakesHeld, MayMakeHeld}
use Rattle.shared_store.specs.Store.{IsWithinAt, shape_in}
use Rattle.shared_store.proofs.Drained.{drained_made, drained_within, frozen_here, may_thaw_drained}
use Rattle.shared_store.proofs.Shown.{by_hall, by_laws}
use Rattle.shared_store.proofs.store.Store.thaw_held.Goals as goal

pub drain-requires-clause-pass : goal.drain-requires-clause-pass
drain-requires-clause-pass g c κs within =
    let s = c.args.pass.now in
    by_hall (λ M w. IsPass M w.id s.seat s.hands) c.self.inside.hall c.args.self.now c.self.invariant c.self.view_is c.requires.within.pass

pub drain-requires-clause-held : goal.drain-requires-clause-held
drain-requires-clause-held g c κs within =
    let number = subst (λ (sh : Shape). slice_get (names sh) c.body-body.result ≡ Some (BodyOf c.args.table c.args.block))
    (c.shape.ensures ∙ c.self.invariant.shape ∙ ap shape_in c.self.view_is) c.body-body.ensures in
    let here = frozen_here c.args.self.now c.args.pass.now.seat c.args.pass.now.hands c.args.table c.args.block c.body-body.result c.requires number in
    (here.0, here.1)

pub drain-requires-clause-imaged : goal.drain-requires-clause-imaged
drain-requires-clause-imaged g c κs within p at =
    let number = subst (λ (sh : Shape). slice_get (names sh) c.body-body.result ≡ Some (BodyOf c.args.table c.args.block))
    (c.shape.ensures ∙ c.self.invariant.shape ∙ ap shape_in c.self.view_is) c.body-body.ensures in
    let here = frozen_here c.args.self.now c.args.pass.now.seat c.args.pass.now.hands c.args.table c.args.block c.body-body.result c.requires number in
    subst (λ (p : CorePart). IsFrozen (head_of (word_of p))) (one_part here.0 p (sym here.1 ∙ at)) here.2
  where
    one_part : (p q : CorePart) → Some (Some p) ≡ Some (Some q) → p ≡ q
    one_part p q e = cc

pub make_on-requires : goal.make_on-requires
make_on-requires g c =
    let st = c.args.self.now in
    let t = c.args.pass.now in
    let u = c.drain.new.pass in
    let number = subst (λ (sh : Shape). slice_get (names sh) c.body-body.result ≡ Some (BodyOf c.args.table c.args.block))
    (c.shape.ensures ∙ c.self.invariant.shape ∙ ap shape_in c.self.view_is) c.body-body.ensures in
    let there = by_laws (λ M w. IsPassAt M (c.body-body.result + 1) w.id u.seat u.hands) c.self.inside.hall st c.self.invariant c.self.view_is c.drain.ensures.pass in
    subst (MayMakeHeld st u.seat u.hands) (sym c.new.ensures)
    (subst (λ hands. MayMakeHeld st u.seat hands (event.Thaw c.args.table c.args.block)) (sym c.drain.ensures.hand)
    (may_thaw_drained st t.seat u.seat t.hands c.args.table c.args.block c.body-body.result c.requires number c.drain.ensures.view
    (subst (λ hands. IsPassAt (store_meaning (shape_in st)) (c.body-body.result + 1) st.id u.seat hands) c.drain.ensures.hand there)))

pub returns : goal.returns
returns g c session own within =
    let st = c.args.self.now in
    let t = c.args.pass.now in
    let u = c.drain.new.pass in
    let w = c.make_on.new.pass in
    let e : CoreEvent = event.Thaw c.args.table c.args.block in
    let there = by_laws (λ M w. IsPassAt M (c.body-body.result + 1) w.id u.seat u.hands) c.self.inside.hall st c.self.invariant c.self.view_is c.drain.ensures.pass in
    let made = subst (λ (e : CoreEvent). MakesHeld st session u.seat w.seat u.hands w.hands own e c.make_on.result) c.new.ensures
    (c.make_on.ensures (c.body-body.result + 1) session own
    (subst (λ hands. IsWithinAt (c.body-body.result + 1) st session u.seat hands own) (sym c.drain.ensures.hand)
    (drained_within st session t.seat u.seat t.hands own (c.body-body.result + 1) c.drain.ensures.view within
    (subst (λ hands. IsPassAt (store_meaning (shape_in st)) (c.body-body.result + 1) st.id u.seat hands) c.drain.ensures.hand there)))
    (subst (IsOfSession session) (sym c.new.ensures) (inr refl))) in
    drained_made st session t.seat u.seat t.hands own (c.body-body.result + 1) c.drain.ensures.view w.seat w.hands e c.make_on.result
    (subst (λ hands. MakesHeld st session u.seat w.seat hands w.hands own e c.make_on.result) c.drain.ensures.hand made)
