use Rattle.std.proofs.Common.{◌-◌, length}
use Rattle.ipc_read.proofs.ReadingLemmas.{Left}
use Rattle.ipc_read.proofs.reading.with_batches.Given as goal

-- what is left behind the batches so far
abbrev pub invariant-loop-rows : goal.invariant-loop-rows
invariant-loop-rows l = Left l.bytes l.known l.place l.batches.items

abbrev pub decreases-loop-rows : goal.decreases-loop-rows
decreases-loop-rows l = length l.bytes - l.place
