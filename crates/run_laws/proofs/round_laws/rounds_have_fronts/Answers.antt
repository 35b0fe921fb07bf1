use Rattle.run_laws.proofs.Rounds.Fronts.{first_lines_are_so, first_lines_ask}
use Rattle.run_laws.proofs.round_laws.rounds_have_fronts.Goals as goal

pub returns-clause-lines : goal.returns-clause-lines
returns-clause-lines c = first_lines_are_so

pub returns-clause-commands : goal.returns-clause-commands
returns-clause-commands c = first_lines_ask
