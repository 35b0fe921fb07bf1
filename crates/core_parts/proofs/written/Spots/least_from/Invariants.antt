use Rattle.core_parts.proofs.Founds.{ArePassed}
use Rattle.core_parts.proofs.written.Spots.least_from.Given as goal

abbrev pub invariant-loop-index : goal.invariant-loop-index
invariant-loop-index l = ArePassed l.fn.shape l.fn.kind l.fn.from l.spots l.index
