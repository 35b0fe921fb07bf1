use Rattle.store_laws.proofs.Making.{events_go_on}
use Rattle.store_laws.proofs.an_event_is_ones_own.Goals as goal

pub returns : goal.returns
returns c = events_go_on
