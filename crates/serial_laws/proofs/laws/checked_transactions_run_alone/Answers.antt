use Rattle.serial_laws.specs.Alone.{ChecksRunAlone}
use Rattle.serial_laws.proofs.Alone.{ending-shown, writes-alone}
use Rattle.serial_laws.proofs.laws.checked_transactions_run_alone.Goals as goal

law : ChecksRunAlone
law script text t number ordered explained among checked is =
    let shown = ending-shown t number is in
    writes-alone script text explained t among number shown.0 shown.1 shown.2 ordered checked

pub returns : goal.returns
returns c = law
