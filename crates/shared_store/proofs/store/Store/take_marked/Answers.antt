use Rattle.std.proofs.Common.{◌≡◌, ◌+◌, Some, sym, subst, ◌∙◌, arith}
use Rattle.std.specs.Prelude.{slice_get}
use Rattle.hall_steps.specs.Hall.{IsPass, Looks}
use Rattle.shared_store.proofs.Latched.{part_there}
use Rattle.shared_store.proofs.Shown.{by_hall, by_laws}
use Rattle.shared_store.proofs.Taken.{get_is, got, taking_hands, taking_passed, taking_room, taking_starts, taking_took}
use Rattle.shared_store.specs.Store.{StoreView, shape_in}
use Rattle.shared_store.specs.Taking.{TakesMarked}
use Rattle.event_spec.specs.Parts.{names}
use Rattle.shared_store.proofs.store.Store.take_marked.Goals.{then-marks-at, else-marks-at}
use Rattle.shared_store.proofs.store.Store.take_marked.Goals as goal

pub loop-at-init : goal.loop-at-init
loop-at-init g c = (omega arith, c.requires.forward, taking_starts c.args.self.now c.args.pass.now.seat c.args.pass.now.hands c.args.marks.now c.args.from c.args.to c.requires.pass c.requires.below)

pub take-requires-clause-pass : goal.take-requires-clause-pass
take-requires-clause-pass g c κs within =
    by_hall (λ M w. IsPass M w.id c.loop-at.pass.seat c.loop-at.pass.hands) c.self.inside.hall c.args.self.now c.self.invariant c.self.view_is c.loop-at.invariant.2.pass

pub take-requires-clause-part : goal.take-requires-clause-part
take-requires-clause-part g c κs within =
    let i = c.loop-at-test.true in let l = c.requires.parts in
    let w = got (names (shape_in c.args.self.now)) c.loop-at.at (omega (arith, i, l)) in
    part_there c.self.inside.hall c.self.invariant w.0 c.loop-at.at
    (subst (λ (st : StoreView). slice_get (names (shape_in st)) c.loop-at.at ≡ Some w.0) (sym c.self.view_is) w.1)

pub take-requires-clause-above : goal.take-requires-clause-above
take-requires-clause-above g c κs within = c.loop-at.invariant.2.below

pub take-requires-clause-hand : goal.take-requires-clause-hand
take-requires-clause-hand g c κs within =
    let one = taking_hands c.args.self.now c.args.pass.now.seat c.loop-at.pass.seat c.args.pass.now.hands c.loop-at.pass.hands c.args.marks.now c.args.from c.loop-at.at c.args.to c.loop-at.invariant.2 c.requires.hand in
    omega (arith, one)

pub loop-at-preserved : goal.loop-at-preserved
loop-at-preserved g c =
    let st = c.args.self.now in
    let s = c.args.pass.now in
    let m = c.loop-at.pass in
    let i = c.loop-at.invariant in
    let less = c.loop-at-test.true in
    let low = i.0 in (
      omega (arith, low),
      omega (arith, less),
      elim c.if-marks-at.branch [
        | then-marks-at w ↦ (
            let t = w.take.new.pass in
            let one = taking_hands st s.seat m.seat s.hands m.hands c.args.marks.now c.args.from c.loop-at.at c.args.to i.2 c.requires.hand in
            let room = taking_room st m.seat m.hands i.2.pass one in
            let parts = c.requires.parts in
            let there = by_laws (λ M w. IsPass M w.id t.seat t.hands) c.self.inside.hall st c.self.invariant c.self.view_is w.take.ensures.pass in
            let looks = by_laws (λ M w. Looks M m.seat t.seat) c.self.inside.hall st c.self.invariant c.self.view_is w.take.ensures.seen in
            subst (λ p. TakesMarked st s.seat p.seat s.hands p.hands c.args.marks.now c.args.from (c.loop-at.at + 1) c.args.to) (sym w.pass-is)
            (taking_took st s.seat m.seat s.hands m.hands c.args.marks.now c.args.from c.loop-at.at c.args.to i.2 less t.seat t.hands low
            (get_is c.args.marks.now c.loop-at.at ∙ w.if-marks-at.true) there looks w.take.ensures.hand w.take.ensures.taken (omega (arith, less, room, parts))))
        | else-marks-at w ↦ (
            subst (λ p. TakesMarked st s.seat p.seat s.hands p.hands c.args.marks.now c.args.from (c.loop-at.at + 1) c.args.to) (sym w.pass-is)
            (taking_passed st s.seat m.seat s.hands m.hands c.args.marks.now c.args.from c.loop-at.at c.args.to i.2 less (get_is c.args.marks.now c.loop-at.at ∙ w.if-marks-at.false)))
      ],
    )
