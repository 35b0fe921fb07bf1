use Rattle.std.proofs.Common.{◌-◌}
use Rattle.output_read.proofs.RowLines.{Walked}
use Rattle.output_read.proofs.rows.rows_above.Given as goal

abbrev pub invariant-loop-rows : goal.invariant-loop-rows
invariant-loop-rows l = Walked l.schema l.count l.lines l.rows l.below l.rest

abbrev pub decreases-loop-rows : goal.decreases-loop-rows
decreases-loop-rows l = l.count - l.rows
