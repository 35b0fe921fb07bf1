use Rattle.store_laws.proofs.Looks.{reads_are_the_scan_throughout}
use Rattle.store_laws.proofs.scan_laws.reads_at_moments_are_the_scan.Goals as goal

pub returns : goal.returns
returns c = reads_are_the_scan_throughout
