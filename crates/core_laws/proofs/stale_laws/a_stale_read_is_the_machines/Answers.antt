use Rattle.core_laws.proofs.Stale.Firsts.{finds_each, finds_first}
use Rattle.core_laws.proofs.stale_laws.a_stale_read_is_the_machines.Goals as goal

pub returns-clause-each : goal.returns-clause-each
returns-clause-each c = finds_each

pub returns-clause-first : goal.returns-clause-first
returns-clause-first c = finds_first
