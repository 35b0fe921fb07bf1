use Rattle.std.proofs.Common.{◌≡◌, map}
use Rattle.core_parts.specs.Least.{offered_all}
use Rattle.event_spec.specs.Parts.{HeadOf, below}
use Rattle.core_parts.proofs.offers.offer_heads.Given as goal

abbrev pub invariant-loop-table : goal.invariant-loop-table
invariant-loop-table l = l.least ≡ offered_all l.shape (map HeadOf (below l.table)) l.fn.least
