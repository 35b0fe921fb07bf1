use Rattle.std.proofs.Common.{◌≡◌, map}
use Rattle.std.specs.Map.Iter.{deref_pair}
use Rattle.core_parts.specs.Written.{name_on, name_written}
use Rattle.core_parts.proofs.written.Spots.of.Given as goal

abbrev pub invariant-loop-row : goal.invariant-loop-row
invariant-loop-row l = map (name_on l.fn.kind) l.spots.items ≡ map (name_written l.fn.kind) (map deref_pair l.yielded)
