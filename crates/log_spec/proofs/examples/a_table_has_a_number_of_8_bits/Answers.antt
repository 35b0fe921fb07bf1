use Rattle.log_spec.proofs.Samples.{too_many_tables}
use Rattle.log_spec.proofs.examples.a_table_has_a_number_of_8_bits.Goals as goal

pub returns : goal.returns
returns c = too_many_tables
