use Rattle.store_laws.proofs.Scans.{reads_are_the_scan}
use Rattle.store_laws.proofs.scan_laws.reads_are_the_scan.Goals as goal

pub returns : goal.returns
returns c = reads_are_the_scan
