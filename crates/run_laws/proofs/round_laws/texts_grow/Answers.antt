use Rattle.run_laws.proofs.Rounds.Lines.{rounds_grow, shares_grow}
use Rattle.run_laws.proofs.round_laws.texts_grow.Goals as goal

pub returns-clause-shares : goal.returns-clause-shares
returns-clause-shares c = shares_grow

pub returns-clause-rounds : goal.returns-clause-rounds
returns-clause-rounds c = rounds_grow
