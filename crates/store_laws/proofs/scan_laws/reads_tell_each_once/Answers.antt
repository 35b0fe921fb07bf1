use Rattle.store_laws.proofs.Scanning.{reads_tell_each_once}
use Rattle.store_laws.proofs.scan_laws.reads_tell_each_once.Goals as goal

pub returns : goal.returns
returns c = reads_tell_each_once
