use Rattle.run_laws.proofs.Rounds.Working.{further, nothing_done, work_ends, work_goes_on}
use Rattle.run_laws.proofs.round_laws.work_goes_on.Goals as goal

pub returns-clause-first : goal.returns-clause-first
returns-clause-first c = nothing_done

pub returns-clause-next : goal.returns-clause-next
returns-clause-next c = work_goes_on

pub returns-clause-ends : goal.returns-clause-ends
returns-clause-ends c = work_ends

pub returns-clause-further : goal.returns-clause-further
returns-clause-further c = further
