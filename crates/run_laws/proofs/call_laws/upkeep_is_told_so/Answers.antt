use Rattle.run_laws.proofs.Calls.Upkeep.{logs_are_replied, shares_are_replied, upkeep_is_told_so}
use Rattle.run_laws.proofs.call_laws.upkeep_is_told_so.Goals as goal

pub returns-clause-logs : goal.returns-clause-logs
returns-clause-logs c = logs_are_replied

pub returns-clause-shares : goal.returns-clause-shares
returns-clause-shares c = shares_are_replied

pub returns-clause-upkeep : goal.returns-clause-upkeep
returns-clause-upkeep c = upkeep_is_told_so
