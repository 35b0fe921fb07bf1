use Rattle.std.proofs.Common.{◌≡◌, ◌<◌, subst, sym}
use Rattle.std.specs.Prelude.{AllPairs}
use Rattle.cold_plan.specs.Plan.{moves_of, NoPlaceTwice}
use Rattle.cold_plan.proofs.Apart.{NoPlaceTwice-moves_of, IfOk-weaker}
use Rattle.cold_plan.proofs.moves.plan_moves.Goals as goal

pub returns-clause-apart : goal.returns-clause-apart
returns-clause-apart c =
    IfOk-weaker
    (λ moves. moves.items ≡ moves_of c.args.rows.now c.args.gaps.now)
    (λ moves.
    AllPairs (λ higher lower. lower < higher) c.args.rows.now →
    AllPairs (λ lower higher. lower < higher) c.args.gaps.now →
    NoPlaceTwice moves.items)
    c.downward_pairs.result
    (λ moves is falling rising. subst NoPlaceTwice (sym is) (NoPlaceTwice-moves_of c.args.rows.now c.args.gaps.now falling rising))
    c.downward_pairs.ensures
