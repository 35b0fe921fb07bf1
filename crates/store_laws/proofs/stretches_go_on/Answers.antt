use Rattle.store_laws.proofs.Stretches.{events_are_a_stretch, nothing_is_a_stretch, stretches_join, stretches_leave_open}
use Rattle.store_laws.proofs.stretches_go_on.Goals as goal

pub returns-clause-events : goal.returns-clause-events
returns-clause-events c = events_are_a_stretch

pub returns-clause-nothing : goal.returns-clause-nothing
returns-clause-nothing c = nothing_is_a_stretch

pub returns-clause-join : goal.returns-clause-join
returns-clause-join c = stretches_join

pub returns-clause-open : goal.returns-clause-open
returns-clause-open c = stretches_leave_open
