use Rattle.core_laws.proofs.Snapshots.BlockReads.{reads_hold_each_row}
use Rattle.core_laws.proofs.snapshot_laws.reads_hold_each_row_once.Goals as goal

pub returns : goal.returns
returns c = reads_hold_each_row
