use Rattle.std.proofs.Common.{ℕ, sym, subst}
use Rattle.hall_rule.specs.Meaning.{meaning}
use Rattle.hall_steps.specs.Hall.{IsPass}
use Rattle.hall_cells.specs.contracts.marks.MarksParts.TheImpl.{ghosts}
use Rattle.hall_cells.proofs.calls.open.Goals as goal

pub returns-clause-pass : goal.returns-clause-pass
returns-clause-pass c =
    let hall = c.in_ok-hall.hall in
    let pass = c.in_ok-hall.pass in
    let e = c.in_ok-hall.ensures in
    subst (λ (n : ℕ). IsPass (meaning ghosts hall.core n) hall.id pass.seat pass.hands) (sym e.hall.1)
    (subst (λ x. IsPass (meaning ghosts x c.args.passes) hall.id pass.seat pass.hands) (sym e.hall.0) e.pass.0)
