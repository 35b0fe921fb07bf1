use Rattle.std.proofs.Common.{◌≡◌, drop, length, map}
use Rattle.core_events.specs.Stale.{key_read, newest_at}
use Rattle.event_spec.specs.Parts.{Parts}
use Rattle.hall_rule.specs.Hands.{Agrees}
use Rattle.isolation_spec.specs.Reads.{first_stale}
use Rattle.core_events.proofs.stale.stale_key.Given as goal

abbrev pub invariant-loop-place : goal.invariant-loop-place
invariant-loop-place l = (s : Parts) → Agrees l.fn.held s
    → first_stale (newest_at l.fn.shape s l.fn.snapshot) (map key_read (drop (length l.yielded) l.fn.reads.places))
    ≡ first_stale (newest_at l.fn.shape s l.fn.snapshot) (map key_read l.fn.reads.places)
