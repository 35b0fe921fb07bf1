use Rattle.stream_laws.proofs.DictStreams.{dict_stream_ends}
use Rattle.stream_laws.proofs.a_stream_by_dictionaries_ends_with_its_end_word.Goals as goal

pub returns : goal.returns
returns c = dict_stream_ends
