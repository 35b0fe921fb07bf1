use Rattle.run_laws.proofs.Rounds.Rounds.{nothing_ran, rounds_go_on}
use Rattle.run_laws.proofs.round_laws.rounds_go_on.Goals as goal

pub returns-clause-first : goal.returns-clause-first
returns-clause-first c = nothing_ran

pub returns-clause-next : goal.returns-clause-next
returns-clause-next c = rounds_go_on
