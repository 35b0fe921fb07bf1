use Rattle.stream_laws.proofs.Streams.{stream_is_read}
use Rattle.stream_laws.proofs.a_stream_is_read_back.Goals as goal

pub returns : goal.returns
returns c = stream_is_read
