use Rattle.stream_pieces.proofs.Long.{schema-decided, short-is-open}
use Rattle.stream_pieces.proofs.what_is_short_is_open.Goals as goal

pub returns : goal.returns
returns c = record { message = short-is-open; schema = schema-decided }
