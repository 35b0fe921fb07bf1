use Rattle.std.proofs.Common.{refl}
use Rattle.stream_pieces.proofs.GoesOn.{schema-goes-on, no-schema-goes-on, early-end-goes-on}
use Rattle.stream_pieces.proofs.GoesOn.{message-goes-on, message-ends, message-fails}
use Rattle.stream_pieces.proofs.messages_go_on.Goals as goal

pub returns : goal.returns
returns c = record {
  message = message-goes-on;
  schema = schema-goes-on;
  end = message-ends;
  fault = message-fails;
  no_schema = no-schema-goes-on;
  early_end = early-end-goes-on;
  opening = λ bytes. refl;
}
