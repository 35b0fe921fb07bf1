use Rattle.std.proofs.Common.{refl}
use Rattle.std.specs.Fmt.{digits}
use lib.Utf8.{encode}
use Rattle.std.specs.Str.{is_utf8, chars}
use Rattle.serial_laws.proofs.examples.readers_of_the_first_stand_in_front.Goals as goal

pub returns : goal.returns
unfolding digits is_utf8 chars encode
returns c = refl
