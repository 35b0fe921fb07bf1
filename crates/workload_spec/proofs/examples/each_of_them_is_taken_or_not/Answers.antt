use Rattle.std.proofs.Common.{refl}
use Rattle.std.specs.Fmt.{digits}
use lib.Utf8.{encode}
use Rattle.std.specs.Str.{is_utf8, chars}
use Rattle.workload_spec.proofs.examples.each_of_them_is_taken_or_not.Goals as goal

pub returns : goal.returns
unfolding digits is_utf8 chars encode
returns c = (refl, refl, refl)
