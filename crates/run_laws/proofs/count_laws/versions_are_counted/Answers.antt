use Rattle.run_laws.proofs.Counts.Versions.{idle_owns_none, opens_without, versions_are_counted}
use Rattle.run_laws.proofs.count_laws.versions_are_counted.Goals as goal

pub returns-clause-opens : goal.returns-clause-opens
returns-clause-opens c = opens_without

pub returns-clause-next : goal.returns-clause-next
returns-clause-next c = versions_are_counted

pub returns-clause-idle : goal.returns-clause-idle
returns-clause-idle c = idle_owns_none
