use Rattle.std.proofs.Common.{refl}
use Rattle.cell_model.proofs.examples.each_kind_has_its_length.Goals as goal

pub returns : goal.returns
returns c = refl
