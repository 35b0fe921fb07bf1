use Rattle.stream_laws.proofs.DictStreams.{dict_stream_is_read}
use Rattle.stream_laws.proofs.a_stream_by_dictionaries_is_read_back.Goals as goal

pub returns : goal.returns
returns c = dict_stream_is_read
