use Rattle.run_laws.proofs.Calls.Open.{nothing_is_open, opens_as}
use Rattle.run_laws.proofs.call_laws.sessions_have_open_what_the_machine_has.Goals as goal

pub returns-clause-first : goal.returns-clause-first
returns-clause-first c = nothing_is_open

pub returns-clause-next : goal.returns-clause-next
returns-clause-next c = opens_as
