use Rattle.arrow_spec.proofs.BitLemmas.{bit_at-bitmap}
use Rattle.arrow_spec.proofs.bit_i_is_in_byte_i_over_8.Goals as goal

pub returns : goal.returns
returns c = bit_at-bitmap
