use Rattle.std.proofs.Common.{refl}
use Rattle.cell_model.proofs.examples.days_are_numbers_of_32_bits.Goals as goal

pub returns : goal.returns
returns c = refl
