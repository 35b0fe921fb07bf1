use Rattle.std.proofs.Common.{take}
use Rattle.core_parts.specs.Touched.{bodies_at}
use Rattle.shared_store.specs.Taking.{Marked}
use Rattle.shared_store.proofs.taking.mark_places.Given as goal

abbrev pub invariant-loop-place : goal.invariant-loop-place
invariant-loop-place l = Marked l.fn.shape (bodies_at l.fn.table (take l.place-index l.fn.places)) l.fn.marks l.marks
