use Rattle.std.proofs.Common.{refl}
use Rattle.txn_desk.specs.Desk.{marked}
use Rattle.event_spec.proofs.examples.tables_have_last_writers.Goals as goal

pub returns : goal.returns
unfolding marked
returns c = (refl, refl)
