use Rattle.std.proofs.Common.{refl}
use Rattle.std.specs.Fmt.{digits}
use Rattle.log_text.proofs.examples.empty_logs_are_told.Goals as goal

pub returns : goal.returns
unfolding digits
returns c = (refl, refl)
