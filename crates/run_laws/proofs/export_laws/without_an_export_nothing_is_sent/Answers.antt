use Rattle.run_laws.proofs.Exports.Quiet.{without_an_export_nothing_is_sent}
use Rattle.run_laws.proofs.export_laws.without_an_export_nothing_is_sent.Goals as goal

pub returns : goal.returns
returns c = without_an_export_nothing_is_sent
