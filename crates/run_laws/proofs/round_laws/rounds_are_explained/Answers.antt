use Rattle.run_laws.proofs.Rounds.Texts.{counts_fit, rounds_are_explained, nothing_is_explained}
use Rattle.run_laws.proofs.round_laws.rounds_are_explained.Goals as goal

pub returns-clause-counts : goal.returns-clause-counts
returns-clause-counts c = counts_fit

pub returns-clause-some : goal.returns-clause-some
returns-clause-some c = rounds_are_explained

pub returns-clause-none : goal.returns-clause-none
returns-clause-none c = nothing_is_explained
