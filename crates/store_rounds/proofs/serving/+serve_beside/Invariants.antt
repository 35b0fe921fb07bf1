use Rattle.std.proofs.Common.{length}
use Rattle.store_rounds.proofs.serving.+serve_beside.Given as goal

abbrev pub decreases-serve_beside : goal.decreases-serve_beside
decreases-serve_beside g l = length l.row.now
