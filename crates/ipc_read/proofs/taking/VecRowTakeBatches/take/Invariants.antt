use Rattle.std.proofs.Common.{◌≡◌, ◌++◌, take}
use Rattle.ipc_read.proofs.taking.VecRowTakeBatches.take.Given as goal

-- the rows so far
abbrev pub invariant-loop-i : goal.invariant-loop-i
invariant-loop-i l = l.self.items ≡ l.initial.self.items ++ take l.i l.batch.rows
