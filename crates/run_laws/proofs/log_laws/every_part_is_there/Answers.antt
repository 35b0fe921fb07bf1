use Rattle.run_laws.proofs.Logs.Parts.{parts_are_there}
use Rattle.run_laws.proofs.log_laws.every_part_is_there.Goals as goal

pub returns : goal.returns
returns c = parts_are_there
