use Rattle.store_laws.proofs.Scanning.{reads_tell_the_rows}
use Rattle.store_laws.proofs.scan_laws.reads_tell_the_rows.Goals as goal

pub returns : goal.returns
returns c = reads_tell_the_rows
