use Rattle.std.proofs.Common.{map}
use Rattle.std.specs.Map.Iter.{deref_pair}
use Rattle.core_parts.specs.Touched.{bodies_written}
use Rattle.shared_store.specs.Taking.{Marked}
use Rattle.shared_store.proofs.taking.mark_written.Given as goal

abbrev pub invariant-loop-row : goal.invariant-loop-row
invariant-loop-row l = Marked l.fn.shape (bodies_written (map deref_pair l.yielded)) l.fn.marks l.marks
