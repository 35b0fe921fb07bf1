use Rattle.std.proofs.Common.{[], map, Option}
use Rattle.std.specs.Map.Iter.{deref_pair}
use Rattle.core_sweeps.specs.CommitSteps.{IsStamped}
use Rattle.core_parts.specs.Hands.{Held}
use Rattle.isolation_spec.specs.Reads.{ReadSet}
use Rattle.core_sweeps.proofs.committing.stamp_all.Given as goal

abbrev pub invariant-loop-row : goal.invariant-loop-row
invariant-loop-row l = (reads : Option ReadSet) (old : Held) → IsStamped l.shape l.own reads l.stamp l.number old l.fn.held [] → IsStamped l.shape l.own reads l.stamp l.number old l.held (map deref_pair l.yielded)
