use Rattle.store_laws.proofs.Going.{keys}
use Rattle.store_laws.proofs.own_laws.each_key_is_handed_its_write.Goals as goal

pub returns : goal.returns
returns c = keys
