use Rattle.std.proofs.Common.{◌≡◌}
use Rattle.ipc_read.specs.Batches.{rows_in}
use Rattle.ipc_read.proofs.batch.rows_of.Given as goal

-- the rows so far
abbrev pub invariant-loop-i : goal.invariant-loop-i
invariant-loop-i l = l.rows.items ≡ rows_in l.i l.views
