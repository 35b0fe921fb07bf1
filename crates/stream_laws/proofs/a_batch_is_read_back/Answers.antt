use Rattle.stream_laws.proofs.BatchMessages.{batch_is_read}
use Rattle.stream_laws.proofs.a_batch_is_read_back.Goals as goal

pub returns : goal.returns
returns c = batch_is_read
