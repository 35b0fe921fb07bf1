use Rattle.stream_pieces.proofs.Stays.{schema-stays}
use Rattle.stream_pieces.proofs.a_schema_stays.Goals as goal

pub returns : goal.returns
returns c = schema-stays
