use Rattle.run_laws.proofs.Exports.Calling.{refused_exports_read_nothing}
use Rattle.run_laws.proofs.export_laws.refused_exports_read_nothing.Goals as goal

pub returns : goal.returns
returns c = refused_exports_read_nothing
