use Rattle.std.proofs.Common.{refl}
use lib.Utf8.{encode}
use Rattle.std.specs.Fmt.{digits}
use Rattle.std.specs.Str.{is_utf8, chars}
use Rattle.stream_text.proofs.examples.a_fault_stands_alone.Goals as goal

pub returns : goal.returns
unfolding digits is_utf8 chars encode
returns c = refl
