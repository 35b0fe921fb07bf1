use Rattle.std.proofs.Common.{refl, inr}
use lib.Utf8.{encode}
use Rattle.std.specs.Str.{is_utf8, chars}
use Rattle.stream_pieces.proofs.examples.a_batch_waits_for_its_other_bytes.Goals as goal

pub returns : goal.returns
unfolding is_utf8 chars encode
returns c = record { waits = inr refl; came = refl }
