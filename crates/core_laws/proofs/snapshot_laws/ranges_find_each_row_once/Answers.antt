use Rattle.core_laws.proofs.Snapshots.RangeKeys.{ranges_find_each_once}
use Rattle.core_laws.proofs.snapshot_laws.ranges_find_each_row_once.Goals as goal

pub returns : goal.returns
returns c = ranges_find_each_once
