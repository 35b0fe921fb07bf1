use Rattle.arrow_spec.proofs.Among.{values-found}
use Rattle.arrow_spec.proofs.dictionaries.values_are_found.Goals as goal

pub returns : goal.returns
returns c = values-found
