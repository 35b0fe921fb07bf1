use Rattle.std.proofs.Common.{◌≡◌, map}
use Rattle.std.specs.List.{flat_map}
use Rattle.core_parts.specs.Hands.{in_hand}
use Rattle.core_parts.specs.Least.{offered_all}
use Rattle.core_parts.specs.Touched.{names_got}
use Rattle.core_parts.proofs.touching.offer_got.Given as goal

abbrev pub invariant-loop-place : goal.invariant-loop-place
invariant-loop-place l = l.least ≡ offered_all l.shape (flat_map (names_got l.shape (in_hand l.shape l.held)) (map (λ place. place.now) l.yielded)) l.fn.least
