use Rattle.std.proofs.Common.{◌≡◌, take}
use Rattle.ipc_message.proofs.lent.of_batch.Given as goal

abbrev pub invariant-loop-array : goal.invariant-loop-array
invariant-loop-array l = l.lent.items ≡ take l.array-index l.arrays
