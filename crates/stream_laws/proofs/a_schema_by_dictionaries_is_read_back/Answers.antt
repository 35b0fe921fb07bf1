use Rattle.stream_laws.proofs.DictSchemas.{dict_schema_is_read}
use Rattle.stream_laws.proofs.a_schema_by_dictionaries_is_read_back.Goals as goal

pub returns : goal.returns
returns c = dict_schema_is_read
