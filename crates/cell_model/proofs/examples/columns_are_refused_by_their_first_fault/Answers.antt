use Rattle.std.proofs.Common.{refl}
use Rattle.cell_model.proofs.examples.columns_are_refused_by_their_first_fault.Goals as goal

pub returns : goal.returns
returns c = refl
