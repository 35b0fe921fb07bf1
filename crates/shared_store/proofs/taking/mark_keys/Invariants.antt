use Rattle.std.proofs.Common.{map}
use Rattle.std.specs.List.{flat_map}
use Rattle.core_parts.specs.Hands.{in_hand}
use Rattle.core_parts.specs.Touched.{names_got}
use Rattle.shared_store.specs.Taking.{Marked}
use Rattle.shared_store.proofs.taking.mark_keys.Given as goal

abbrev pub invariant-loop-place : goal.invariant-loop-place
invariant-loop-place l = Marked l.fn.shape (flat_map (names_got l.fn.shape (in_hand l.fn.shape l.fn.held)) (map (λ place. place.now) l.yielded)) l.fn.marks l.marks
