use Rattle.std.proofs.Common.{◌≡◌, None, map}
use Rattle.std.specs.Prelude.{find}
use Rattle.std.specs.Map.Iter.{deref_pair}
use Rattle.shared_store.proofs.Maps.{is_of}
use Rattle.shared_store.proofs.writes.Writes.least_key.Given as goal

abbrev pub invariant-loop-place : goal.invariant-loop-place
invariant-loop-place l = find (is_of l.fn.table) (map deref_pair l.yielded) ≡ None
