use Rattle.std.proofs.Common.{refl}
use Rattle.cell_model.proofs.examples.a_value_of_65536_bytes_fits_a_large_column.Goals as goal

pub returns : goal.returns
returns c = refl
