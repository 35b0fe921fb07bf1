use Rattle.core_parts.proofs.Spots.{AreBefore}
use Rattle.core_parts.proofs.written.PartKind.first_spot.Given as goal

abbrev pub invariant-loop-table : goal.invariant-loop-table
invariant-loop-table l = AreBefore l.fn.self l.fn.shape l.fn.from l.table
