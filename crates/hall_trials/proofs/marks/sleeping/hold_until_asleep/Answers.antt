use Rattle.std.proofs.Common.{arith}
use Rattle.hall_steps.specs.Hall.{first_of}
use Rattle.hall_cells.proofs.Taking.{first_room, took_holds}
use Rattle.hall_trials.proofs.marks.sleeping.hold_until_asleep.Goals as goal

pub take-requires-clause-above : goal.take-requires-clause-above
take-requires-clause-above g c κs within = λ k h. absurd (c.requires.empty.none k h)

pub give-requires-clause-held : goal.give-requires-clause-held
give-requires-clause-held g c κs =
    let n = first_room _ _ _ _ c.requires.pass c.requires.hand in
    let a = c.requires.shape in
    let b = c.requires.part in
    let e = c.take.ensures.hand in
    took_holds (first_of c.args.pass.now.hands) (first_of c.take.new.pass.hands) 1 e.0 (omega (arith, n, a, b)) e.1
