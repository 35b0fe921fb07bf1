use Rattle.store_laws.proofs.Knowing.{joins_go_on, looks_go_on}
use Rattle.store_laws.proofs.looking_on_changes_nothing_of_ones_own.Goals as goal

pub returns-clause-looks : goal.returns-clause-looks
returns-clause-looks c = looks_go_on

pub returns-clause-joins : goal.returns-clause-joins
returns-clause-joins c = joins_go_on
