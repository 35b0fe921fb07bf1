use Rattle.arrow_spec.proofs.SizeLemmas.{length-batch}
use Rattle.arrow_spec.proofs.a_batch_has_16_bytes_of_metadata_for_each_node_and_buffer.Goals as goal

pub returns : goal.returns
returns c = length-batch
