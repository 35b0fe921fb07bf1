use Rattle.std.proofs.Common.{◌≡◌, drop, map}
use Rattle.core_events.specs.Stale.{newest_at, range_read}
use Rattle.event_spec.specs.Parts.{Parts}
use Rattle.hall_rule.specs.Hands.{Agrees}
use Rattle.isolation_spec.specs.Reads.{first_stale}
use Rattle.core_events.proofs.stale.stale_range.Given as goal

abbrev pub invariant-loop-range : goal.invariant-loop-range
invariant-loop-range l = (s : Parts) → Agrees l.fn.held s
    → first_stale (newest_at l.fn.shape s l.fn.snapshot) (map range_read (drop l.range-index l.fn.ranges))
    ≡ first_stale (newest_at l.fn.shape s l.fn.snapshot) (map range_read l.fn.ranges)
