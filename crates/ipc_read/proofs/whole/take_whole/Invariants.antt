use Rattle.std.proofs.Common.{length, ◌-◌}
use Rattle.ipc_read.specs.Looks.{newest_of}
use Rattle.ipc_read.proofs.WholeLemmas.{Left}
use Rattle.ipc_read.proofs.whole.take_whole.Given as goal

-- what is left behind the messages so far
abbrev pub invariant-loop-count : goal.invariant-loop-count
invariant-loop-count g l = Left (λ rows. g.T.TakeBatches.took l.initial.taker rows l.taker) l.known
    l.place l.bytes (newest_of l.known l.newer) l.count

abbrev pub decreases-loop-count : goal.decreases-loop-count
decreases-loop-count g l = length l.bytes - l.count
