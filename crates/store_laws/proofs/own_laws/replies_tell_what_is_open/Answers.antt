use Rattle.store_laws.proofs.Going.{goes, stays}
use Rattle.store_laws.proofs.own_laws.replies_tell_what_is_open.Goals as goal

pub returns-clause-goes_on : goal.returns-clause-goes_on
returns-clause-goes_on c = goes

pub returns-clause-stays : goal.returns-clause-stays
returns-clause-stays c = stays
