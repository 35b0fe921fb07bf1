use Rattle.std.proofs.Common.{refl}
use Rattle.cell_model.proofs.examples.slots_fit_a_block_of_2_to_the_20_bytes.Goals as goal

pub returns : goal.returns
returns c = refl
