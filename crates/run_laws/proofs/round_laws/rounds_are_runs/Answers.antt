use Rattle.run_laws.proofs.Rounds.Texts.{texts_are_lines, rounds_ran}
use Rattle.run_laws.proofs.round_laws.rounds_are_runs.Goals as goal

pub returns-clause-text : goal.returns-clause-text
returns-clause-text c = texts_are_lines

pub returns-clause-ran : goal.returns-clause-ran
returns-clause-ran c = rounds_ran
