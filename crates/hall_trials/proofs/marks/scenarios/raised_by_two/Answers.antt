use Rattle.std.proofs.Common.{ℕ, List, Option, sym, subst, arith}
use Rattle.hall_rule.specs.Hands.{Holds}
use Rattle.hall_cells.proofs.Taking.{all_held}
use Rattle.hall_trials.proofs.marks.scenarios.raised_by_two.Goals as goal

pub close-closed-requires-clause-empty : goal.close-closed-requires-clause-empty
close-closed-requires-clause-empty g c κs = λ k h. c.raise_both.ensures.empty_one.none k (c.join.ensures.only k h)

pub part-requires : goal.part-requires
part-requires g c =
    let room = c.join.ensures.pass.of.1.room in
    let a = c.in_ok-hall.ensures.shape.1 in
    let b = c.in_ok-hall.ensures.shape.2 in
    subst (λ (x : List (Option ℕ)). Holds x 1) (sym c.close-closed.ensures.parts) (all_held _ 1 (omega (arith, room, a, b)))
