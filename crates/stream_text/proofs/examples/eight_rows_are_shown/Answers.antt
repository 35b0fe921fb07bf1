use Rattle.std.proofs.Common.{refl}
use lib.Utf8.{encode}
use Rattle.std.specs.Fmt.{digits}
use Rattle.std.specs.Str.{is_utf8, chars}
use Rattle.stream_text.proofs.examples.eight_rows_are_shown.Goals as goal

pub returns : goal.returns
unfolding digits is_utf8 chars encode
returns c = refl
