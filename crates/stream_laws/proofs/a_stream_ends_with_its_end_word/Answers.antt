use Rattle.stream_laws.proofs.Streams.{stream_ends}
use Rattle.stream_laws.proofs.a_stream_ends_with_its_end_word.Goals as goal

pub returns : goal.returns
returns c = stream_ends
