use Rattle.run_laws.proofs.Exports.Sending.{nothing_says_nothing, runs_say_all_sent}
use Rattle.run_laws.proofs.export_laws.runs_say_all_sent.Goals as goal

pub returns-clause-some : goal.returns-clause-some
returns-clause-some c = runs_say_all_sent

pub returns-clause-none : goal.returns-clause-none
returns-clause-none c = nothing_says_nothing
