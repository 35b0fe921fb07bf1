use Rattle.std.proofs.Common.{◌≡◌}
use Rattle.ipc_read.specs.Fields.{cells_told}
use Rattle.ipc_read.proofs.batch.cells_of.Given as goal

-- the cells so far
abbrev pub invariant-loop-i : goal.invariant-loop-i
invariant-loop-i l = l.cells.items ≡ cells_told l.i l.view
