use Rattle.run_laws.proofs.Exports.Calling.{all_reads_are_an_export}
use Rattle.run_laws.proofs.export_laws.all_reads_are_an_export.Goals as goal

pub returns : goal.returns
returns c = all_reads_are_an_export
