use Rattle.std.proofs.Common.{refl}
use lib.Utf8.{encode}
use Rattle.std.specs.Str.{is_utf8, chars}
use Rattle.stream_pieces.proofs.examples.the_second_batch_is_left.Goals as goal

pub returns : goal.returns
unfolding is_utf8 chars encode
returns c = record { whole = refl; cut = refl }
