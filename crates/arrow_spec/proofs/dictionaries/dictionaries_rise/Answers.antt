use Rattle.arrow_spec.proofs.Rising.{dictionary-rises}
use Rattle.arrow_spec.proofs.dictionaries.dictionaries_rise.Goals as goal

pub returns : goal.returns
returns c = dictionary-rises
