use Rattle.std.proofs.Common.{◌≡◌, take}
use Rattle.gather_core.specs.Gathered.{buffers_from}
use Rattle.gather_core.proofs.block.in_turn.Given as goal

abbrev pub invariant-loop-at : goal.invariant-loop-at
invariant-loop-at l = l.buffers.items ≡ take l.at (buffers_from 0 l.columns.columns (take l.n l.columns.rows))
