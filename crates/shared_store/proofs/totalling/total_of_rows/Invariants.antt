use Rattle.std.proofs.Common.{take}
use Rattle.isolation_spec.specs.Contents.{numbers_between}
use Rattle.shared_store.proofs.Sums.{Summed}
use Rattle.shared_store.proofs.totalling.total_of_rows.Given as goal

abbrev pub invariant-loop-row : goal.invariant-loop-row
invariant-loop-row l = Summed l.count l.sum l.row-index (numbers_between l.wanted.column l.wanted.low l.wanted.high (take l.row-index l.rows))
