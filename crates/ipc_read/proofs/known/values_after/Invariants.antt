use Rattle.std.proofs.Common.{◌≡◌, take}
use Rattle.ipc_read.proofs.known.values_after.Given as goal

abbrev pub invariant-loop-cell : goal.invariant-loop-cell
invariant-loop-cell l = l.values.items ≡ take l.cell-index l.before
