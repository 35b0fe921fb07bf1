use Rattle.std.proofs.Common.{◌≡◌, map, ℕ}
use Rattle.std.specs.Map.Iter.{deref_pair}
use Rattle.block_layout.specs.Place.{block_of}
use Rattle.core_parts.specs.Least.{offered_all}
use Rattle.event_spec.specs.Parts.{BodyOf}
use Rattle.isolation_spec.specs.declared.place.Place.{Place}
use Rattle.core_parts.proofs.offers.offer_written.Given as goal

abbrev pub invariant-loop-row : goal.invariant-loop-row
invariant-loop-row l = l.least ≡ offered_all l.shape (map (λ (write : Place × ℕ). BodyOf write.0.table (block_of write.1)) (map deref_pair l.yielded)) l.fn.least
