use Rattle.std.proofs.Common.{map}
use Rattle.si_machine.specs.Kept.{machine_in}
use Rattle.si_machine.specs.Readings.{reading_in}
use Rattle.si_machine.proofs.Readings.{plain-on, read-result}
use Rattle.si_machine.proofs.machine.Machine.plain.Goals as goal

pub invariant_of-self : goal.invariant_of-self
invariant_of-self c = (
  c.step.ensures.kept,
  read-result (machine_in c.self.inside.ledger) (machine_in c.step.new.self) (map reading_in c.self.inside.readings.items) c.args.session c.args.asked c.step.result c.step.ensures.ok c.step.ensures.err
      (plain-on c.args.asked c.requires.plain) c.self.invariant.1,
)
