use Rattle.std.proofs.Common.{◌≡◌, ℕ, true, Some, sym, subst}
use Rattle.std.specs.Prelude.{slice_get}
use Rattle.event_spec.specs.Effects.{CoreEvent}
use Rattle.event_spec.specs.Parts.{BodyOf, names}
use Rattle.event_spec.specs.Touched.{touching}
use Rattle.hall_rule.specs.Hands.{Holds}
use Rattle.hall_steps.specs.Hall.{IsPass, Looks, first_of}
use Rattle.shared_store.specs.Keeping.{event_on}
use Rattle.shared_store.specs.Making.{Takes}
use Rattle.shared_store.specs.Store.{StoreView, shape_in}
use Rattle.shared_store.proofs.Kept.{above_kept, hand_room, only_with}
use Rattle.shared_store.proofs.Latched.{part_there}
use Rattle.shared_store.proofs.Rested.{body_taken, taken_anew}
use Rattle.shared_store.proofs.Shown.{by_hall, by_laws}
use Rattle.shared_store.proofs.store.Store.take_beside.Goals as goal

pub take_for-requires : goal.take_for-requires
take_for-requires g c =
    let any = c.requires.pass in
    let gives = c.give_back.ensures any.0 any.1 any.2 in
    (any.0, any.1, gives.stands)

pub take-requires-clause-pass : goal.take-requires-clause-pass
take-requires-clause-pass g c κs within =
    let s = c.args.pass.now in
    by_hall (λ M w. IsPass M w.id s.seat s.hands) c.self.inside.hall c.args.self.now c.self.invariant c.self.view_is c.requires.pass.2.pass

pub take-requires-clause-part : goal.take-requires-clause-part
take-requires-clause-part g c κs within =
    let r = c.requires.beside in
    part_there c.self.inside.hall c.self.invariant (BodyOf r.table c.args.block) c.args.body
    (subst (λ (st : StoreView). slice_get (names (shape_in st)) c.args.body ≡ Some (BodyOf r.table c.args.block)) (sym c.self.view_is) r.number)

pub take-requires-clause-above : goal.take-requires-clause-above
take-requires-clause-above g c κs within =
    let r = c.requires.beside in
    above_kept (shape_in c.args.self.now) r.common r.table c.args.block c.args.body (event_on c.args.on c.args.table c.args.block) r.number r.on (first_of c.args.pass.now.hands)
    (r.keeps c.if-block-eq0.false)

pub returns-then-block-eq0-clause-takes : goal.returns-then-block-eq0-clause-takes
returns-then-block-eq0-clause-takes g c session own within =
    let s = c.args.pass.now in
    let m = c.give_back.new.pass in
    let t = c.take_for.new.pass in
    let gives = c.give_back.ensures session own within in
    subst (λ (e : CoreEvent). Takes c.args.self.now session s.seat t.seat t.hands own e) c.event-event.ensures
    (taken_anew c.args.self.now session s.seat m.seat t.seat m.hands t.hands own c.event-event.result gives (c.take_for.ensures.takes session own gives.stands))

pub returns-then-block-eq0-clause-only : goal.returns-then-block-eq0-clause-only
returns-then-block-eq0-clause-only g c =
    subst (λ (e : CoreEvent). (k : ℕ) → Holds (first_of c.take_for.new.pass.hands) k → touching (shape_in c.args.self.now) e (first_of c.take_for.new.pass.hands) k ≡ true)
    c.event-event.ensures c.take_for.ensures.only

pub returns-else-block-eq0-clause-takes : goal.returns-else-block-eq0-clause-takes
returns-else-block-eq0-clause-takes g c session own within =
    let st = c.args.self.now in
    let r = c.requires.beside in
    let s = c.args.pass.now in
    let t = c.take.new.pass in
    let there = by_laws (λ M w. IsPass M w.id t.seat t.hands) c.self.inside.hall st c.self.invariant c.self.view_is c.take.ensures.pass in
    let looks = by_laws (λ M w. Looks M s.seat t.seat) c.self.inside.hall st c.self.invariant c.self.view_is c.take.ensures.seen in
    body_taken st r.common r.table c.args.block c.args.body (event_on c.args.on c.args.table c.args.block) s.seat t.seat s.hands t.hands r.number r.on (r.keeps c.if-block-eq0.false)
    there looks c.take.ensures.hand c.take.ensures.taken session own within

pub returns-else-block-eq0-clause-only : goal.returns-else-block-eq0-clause-only
returns-else-block-eq0-clause-only g c =
    let st = c.args.self.now in
    let r = c.requires.beside in
    let s = c.args.pass.now in
    let t = c.take.new.pass in
    let any = c.requires.pass in
    only_with (shape_in st) r.common r.table c.args.block c.args.body (event_on c.args.on c.args.table c.args.block) r.number r.on (first_of s.hands) (first_of t.hands) c.take.ensures.hand.0
    (hand_room st any.0 s.seat s.hands any.1 any.2) (r.keeps c.if-block-eq0.false) c.take.ensures.hand.1
