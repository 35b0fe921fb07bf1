use Rattle.run_laws.proofs.Exports.Calling.{some_reads_are_an_export}
use Rattle.run_laws.proofs.export_laws.some_reads_are_an_export.Goals as goal

pub returns : goal.returns
returns c = some_reads_are_an_export
