use Rattle.store_laws.proofs.Ranges.{ranges_tell_each_once}
use Rattle.store_laws.proofs.scan_laws.ranges_tell_each_once.Goals as goal

pub returns : goal.returns
returns c = ranges_tell_each_once
