use Rattle.std.proofs.Common.{refl}
use Rattle.std.specs.Fmt.{digits}
use lib.Utf8.{encode}
use Rattle.std.specs.Str.{is_utf8, chars}
use Rattle.workload_spec.proofs.examples.checked_begins_ranges_and_totals_are_of_the_second_version.Goals as goal

pub returns : goal.returns
unfolding digits is_utf8 chars encode
returns c = (refl, refl, refl, refl, refl, refl)
