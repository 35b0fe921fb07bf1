use Rattle.std.proofs.Common.{take}
use Rattle.isolation_spec.specs.Contents.{numbers_between}
use Rattle.si_machine.proofs.Sums.{Summed}
use Rattle.si_machine.proofs.totals.told.Given as goal

abbrev pub invariant-loop-row : goal.invariant-loop-row
invariant-loop-row l = Summed l.count l.sum l.row-index (numbers_between l.column l.low l.high (take l.row-index l.rows))
