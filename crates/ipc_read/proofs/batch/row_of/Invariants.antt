use Rattle.std.proofs.Common.{◌≡◌, take}
use Rattle.ipc_read.specs.Batches.{row_in}
use Rattle.ipc_read.proofs.batch.row_of.Given as goal

-- the cells of the columns so far
abbrev pub invariant-loop-view : goal.invariant-loop-view
invariant-loop-view l = l.cells.items ≡ row_in (take l.view-index l.views) l.i
