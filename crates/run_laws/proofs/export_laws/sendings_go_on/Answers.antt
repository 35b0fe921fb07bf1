use Rattle.run_laws.proofs.Exports.Sending.{sending_goes_on, sendings_join}
use Rattle.run_laws.proofs.export_laws.sendings_go_on.Goals as goal

pub returns-clause-next : goal.returns-clause-next
returns-clause-next c = sending_goes_on

pub returns-clause-join : goal.returns-clause-join
returns-clause-join c = sendings_join
