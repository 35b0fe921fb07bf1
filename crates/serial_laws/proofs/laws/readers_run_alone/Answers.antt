use Rattle.serial_laws.specs.Alone.{ReadersRunAlone}
use Rattle.serial_laws.proofs.Alone.{reads-alone}
use Rattle.serial_laws.proofs.laws.readers_run_alone.Goals as goal

law : ReadersRunAlone
law script text t explained among quiet = reads-alone script text explained t among quiet

pub returns : goal.returns
returns c = law
