use Rattle.core_laws.proofs.Following.Stepping.{prune_follows, move_follows}
use Rattle.core_laws.proofs.follow_laws.upkeep_follows.Goals as goal

pub returns-clause-pruning : goal.returns-clause-pruning
returns-clause-pruning c = prune_follows

pub returns-clause-moving : goal.returns-clause-moving
returns-clause-moving c = move_follows
