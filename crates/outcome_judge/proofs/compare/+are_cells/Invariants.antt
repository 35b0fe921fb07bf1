use Rattle.std.proofs.Common.{length}
use Rattle.outcome_judge.proofs.compare.+are_cells.Given as goal

abbrev pub decreases-are_cells : goal.decreases-are_cells
decreases-are_cells l = length l.a.now
