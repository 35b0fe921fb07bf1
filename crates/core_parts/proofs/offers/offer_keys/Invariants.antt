use Rattle.std.proofs.Common.{◌≡◌, map, ℕ}
use Rattle.std.specs.Map.Iter.{deref_pair}
use Rattle.core_parts.specs.Least.{offered_all}
use Rattle.event_spec.specs.Parts.{ShardOf, shard_of}
use Rattle.isolation_spec.specs.declared.place.Place.{Place}
use Rattle.core_parts.proofs.offers.offer_keys.Given as goal

abbrev pub invariant-loop-row : goal.invariant-loop-row
invariant-loop-row l = l.least ≡ offered_all l.shape (map (λ (write : Place × ℕ). ShardOf write.0.table (shard_of write.0.key)) (map deref_pair l.yielded)) l.fn.least
