use Rattle.run_laws.proofs.Recovery.Laws.{numbers_are_kept}
use Rattle.run_laws.proofs.surviving.logs_keep_the_numbers.Goals as goal

pub returns : goal.returns
returns c = numbers_are_kept
