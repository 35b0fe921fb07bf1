use Rattle.std.proofs.Common.{◌≡◌, false, Some, ap, subst, ◌∙◌}
use Rattle.std.specs.Prelude.{slice_get}
use Rattle.event_spec.specs.Parts.{BodyOf, Shape, names}
use Rattle.hall_steps.specs.Hall.{IsPass, Looks, first_of}
use Rattle.shared_store.specs.Store.{shape_in}
use Rattle.shared_store.proofs.Alone.{alone_taken, keeps_none}
use Rattle.shared_store.proofs.Latched.{part_there, taken_there}
use Rattle.shared_store.proofs.Rested.{body_taken}
use Rattle.shared_store.proofs.Shown.{by_hall, by_laws}
use Rattle.shared_store.proofs.store.Store.take_body.Goals as goal

pub take-requires-clause-pass : goal.take-requires-clause-pass
take-requires-clause-pass g c κs within =
    let s = c.args.pass.now in
    by_hall (λ M w. IsPass M w.id s.seat s.hands) c.self.inside.hall c.args.self.now c.self.invariant c.self.view_is c.requires.pass.2.within.pass

pub take-requires-clause-part : goal.take-requires-clause-part
take-requires-clause-part g c κs within =
    part_there c.self.inside.hall c.self.invariant (BodyOf c.args.table c.args.block) c.body-body.result
    (subst (λ (sh : Shape). slice_get (names sh) c.body-body.result ≡ Some (BodyOf c.args.table c.args.block))
    (c.shape.ensures ∙ c.self.invariant.shape) c.body-body.ensures)

pub take-requires-clause-above : goal.take-requires-clause-above
take-requires-clause-above g c κs within k held = absurd (c.requires.pass.2.empty k held)

pub returns-clause-takes : goal.returns-clause-takes
returns-clause-takes g c event on session own at' =
    let st = c.args.self.now in
    let s = c.args.pass.now in
    let t = c.take.new.pass in
    let there = by_laws (λ M w. IsPass M w.id t.seat t.hands) c.self.inside.hall st c.self.invariant c.self.view_is c.take.ensures.pass in
    let looks = by_laws (λ M w. Looks M s.seat t.seat) c.self.inside.hall st c.self.invariant c.self.view_is c.take.ensures.seen in
    let number = subst (λ (sh : Shape). slice_get (names sh) c.body-body.result ≡ Some (BodyOf c.args.table c.args.block))
    (c.shape.ensures ∙ c.self.invariant.shape ∙ ap shape_in c.self.view_is) c.body-body.ensures in
    body_taken st (λ name. false) c.args.table c.args.block c.body-body.result event s.seat t.seat s.hands t.hands number on
    (keeps_none (shape_in st) (first_of s.hands) at'.empty) there looks c.take.ensures.hand c.take.ensures.taken session own at'.within

pub returns-clause-alone : goal.returns-clause-alone
returns-clause-alone g c =
    let st = c.args.self.now in
    let s = c.args.pass.now in
    let t = c.take.new.pass in
    let any = c.requires.pass in
    let hand = c.take.ensures.hand in
    let number = subst (λ (sh : Shape). slice_get (names sh) c.body-body.result ≡ Some (BodyOf c.args.table c.args.block))
    (c.shape.ensures ∙ c.self.invariant.shape ∙ ap shape_in c.self.view_is) c.body-body.ensures in
    alone_taken (first_of s.hands) (first_of t.hands) c.body-body.result hand.0 any.2.empty hand.1
    (taken_there st any.0 s.seat s.hands any.1 any.2.within t.hands (BodyOf c.args.table c.args.block) c.body-body.result hand.0 number hand.1)

pub returns-clause-number : goal.returns-clause-number
returns-clause-number g c =
    subst (λ (sh : Shape). slice_get (names sh) c.body-body.result ≡ Some (BodyOf c.args.table c.args.block))
    (c.shape.ensures ∙ c.self.invariant.shape ∙ ap shape_in c.self.view_is) c.body-body.ensures

pub returns-clause-took : goal.returns-clause-took
returns-clause-took g c = c.take.ensures.taken
