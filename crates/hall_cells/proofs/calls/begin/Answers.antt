use Rattle.std.proofs.Common.{◌≡◌, ◌<◌, Some, length, length-set, ap, ◌∙◌, arith}
use Rattle.hall_rule.specs.HallInvariant.{hands_of}
use Rattle.hall_steps.specs.Hall.{first_of}
use Rattle.hall_steps.proofs.Knowing.{same_holds}
use Rattle.hall_cells.proofs.Taking.{first_room, gave_left, took_holds, took_left}
use Rattle.hall_cells.proofs.calls.begin.Goals as goal

pub take-requires-clause-above : goal.take-requires-clause-above
take-requires-clause-above g c κs within = λ k h. absurd (c.requires.empty.none k h)

pub try_begin-free-requires-clause-held : goal.try_begin-free-requires-clause-held
try_begin-free-requires-clause-held g c =
    let few = c.requires.few in
    let some' : 0 < hands_of c.args.pass.now.seat.me.0 = omega (arith, few) in
    let n = first_room _ _ _ _ c.requires.pass some' in
    let a = c.requires.shape.0 in
    let b = c.requires.shape.1 in
    let e = c.take.ensures.hand in
    took_holds (first_of c.args.pass.now.hands) (first_of c.take.new.pass.hands) 0 e.0 (omega (arith, n, a, b)) e.1

pub give-requires-clause-held : goal.give-requires-clause-held
give-requires-clause-held g c κs =
    let few = c.requires.few in
    let some' : 0 < hands_of c.args.pass.now.seat.me.0 = omega (arith, few) in
    let n = first_room _ _ _ _ c.requires.pass some' in
    let a = c.requires.shape.0 in
    let b = c.requires.shape.1 in
    let e = c.take.ensures.hand in
    c.try_begin-free.ensures.room.held 0 (took_holds (first_of c.args.pass.now.hands) (first_of c.take.new.pass.hands) 0 e.0 (omega (arith, n, a, b)) e.1)

pub returns-clause-empty : goal.returns-clause-empty
returns-clause-empty g c = record {
  none = λ k h.
      let few = c.requires.few in
      let some' : 0 < hands_of c.args.pass.now.seat.me.0 = omega (arith, few) in
      let n = first_room _ _ _ _ c.requires.pass some' in
      let a = c.requires.shape.0 in
      let b = c.requires.shape.1 in
      let e = c.take.ensures.hand in
      let room = c.try_begin-free.ensures.room in
      let l1 : length (first_of c.take.new.pass.hands) ≡ length (first_of c.args.pass.now.hands) = ap length e.1 ∙ length-set (first_of c.args.pass.now.hands) 0 (Some e.0) in
      let l2 = room.places in
      let left = gave_left (first_of c.try_begin-free.new.pass.hands) (first_of c.give.new.pass.hands) 0 k (omega (arith, n, a, b, l1, l2)) c.give.ensures.hand h in
      c.requires.empty.none k (took_left (first_of c.args.pass.now.hands) (first_of c.take.new.pass.hands) 0 k e.0 e.1 left.0 (same_holds (first_of c.take.new.pass.hands) (first_of c.try_begin-free.new.pass.hands) room k left.1));
}
