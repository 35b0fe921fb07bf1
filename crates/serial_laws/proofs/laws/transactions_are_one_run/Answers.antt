use Rattle.serial_laws.specs.Alone.{SerialRun}
use Rattle.serial_laws.proofs.OneRun.{one-run}
use Rattle.serial_laws.proofs.laws.transactions_are_one_run.Goals as goal

law : SerialRun
law script text ordered explained checked = one-run script text ordered explained checked

pub returns : goal.returns
returns c = law
