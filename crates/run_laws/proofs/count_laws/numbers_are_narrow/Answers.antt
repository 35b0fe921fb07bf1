use Rattle.run_laws.proofs.Counts.Numbering.{numbers_are_narrow, opens_narrow}
use Rattle.run_laws.proofs.count_laws.numbers_are_narrow.Goals as goal

pub returns-clause-opens : goal.returns-clause-opens
returns-clause-opens c = opens_narrow

pub returns-clause-next : goal.returns-clause-next
returns-clause-next c = numbers_are_narrow
