use Rattle.store_laws.proofs.Going.{rests}
use Rattle.store_laws.proofs.own_laws.nothing_is_open_at_first.Goals as goal

pub returns : goal.returns
returns c = rests
