use Rattle.program.proofs.Numbers.{number_found, number_missed}
use Rattle.program.proofs.words.number_in.Goals as goal

pub returns-in-Ok-clause-number : goal.returns-in-Ok-clause-number
returns-in-Ok-clause-number c =
    let read = c.in-Ok.ensures.value.0 in
    number_found c.args.low c.args.high c.args.word.now c.in-Ok.number read.0.0 read.1 c.if-low-number.true c.if-number-high.true

pub returns-in_default-3-clause-number : goal.returns-in_default-3-clause-number
returns-in_default-3-clause-number c = number_missed c.args.low c.args.high c.args.word.now c.ranges.high.fits c.in_default.ensures.value.0
