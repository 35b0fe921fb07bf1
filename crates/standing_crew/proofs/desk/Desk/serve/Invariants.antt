use Rattle.standing_crew.specs.Desk.{IsHelper}
use Rattle.standing_crew.proofs.desk.Desk.serve.Given as goal

abbrev pub invariant-loop : goal.invariant-loop
invariant-loop g l =
    (goal.iterator-loop g).can_next l.iterator' × (goal.iterator-loop g).is_finite l.iterator'
    × IsHelper l.self l.helper
