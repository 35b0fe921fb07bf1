use Rattle.run_laws.proofs.Commits.Numbers.{numbers_are_within}
use Rattle.run_laws.proofs.commit_laws.numbers_are_within_the_history.Goals as goal

pub returns : goal.returns
returns c = numbers_are_within
