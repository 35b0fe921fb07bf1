use Rattle.stream_laws.proofs.SchemaMessages.{schema_is_read}
use Rattle.stream_laws.proofs.a_schema_is_read_back.Goals as goal

pub returns : goal.returns
returns c = schema_is_read
