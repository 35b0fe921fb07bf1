use Rattle.core_laws.proofs.Frozen.Frozen.{frozen_is_settled, frozen_stays}
use Rattle.core_laws.proofs.frozen_laws.frozen_blocks_are_settled.Goals as goal

pub returns-clause-settled : goal.returns-clause-settled
returns-clause-settled c = frozen_is_settled

pub returns-clause-stays : goal.returns-clause-stays
returns-clause-stays c = frozen_stays
