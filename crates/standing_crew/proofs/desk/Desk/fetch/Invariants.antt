use Rattle.std.proofs.Common.{◌≡◌}
use Rattle.crossbeam_queue.specs.Passes.{IsPassOf, view}
use Rattle.standing_crew.proofs.desk.Desk.fetch.Given as goal

-- what was handed over has not come back: the client knows what it knew
abbrev pub invariant-loop : goal.invariant-loop
invariant-loop g l =
    (goal.iterator-loop g).can_next l.iterator' × (goal.iterator-loop g).is_finite l.iterator'
    × IsPassOf l.self.queue l.client.pass × (view l.client.pass ≡ view l.fn.client.pass)
