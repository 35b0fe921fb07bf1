use Rattle.run_laws.proofs.Exports.Exported.{exports_are_said}
use Rattle.run_laws.proofs.export_laws.exports_are_said.Goals as goal

pub returns : goal.returns
returns c = exports_are_said
