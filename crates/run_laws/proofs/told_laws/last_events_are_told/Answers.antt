use Rattle.run_laws.proofs.Told.Tells.{calls_go_on_quietly, last_events_are_told, refusals_are_plain}
use Rattle.run_laws.proofs.told_laws.last_events_are_told.Goals as goal

pub returns-clause-before : goal.returns-clause-before
returns-clause-before c = calls_go_on_quietly

pub returns-clause-last : goal.returns-clause-last
returns-clause-last c = last_events_are_told

pub returns-clause-none : goal.returns-clause-none
returns-clause-none c = refusals_are_plain
