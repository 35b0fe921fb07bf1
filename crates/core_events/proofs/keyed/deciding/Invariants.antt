use Rattle.std.proofs.Common.{◌≡◌, ◌≤◌, false, drop, length}
use Rattle.std.specs.List.{list_any}
use Rattle.block_body.specs.Ages.{is_settled}
use Rattle.event_spec.specs.Parts.{Parts, slot_at}
use Rattle.hall_rule.specs.Hands.{Agrees}
use Rattle.core_events.proofs.keyed.deciding.Given as goal

abbrev pub invariant-loop-from : goal.invariant-loop-from
invariant-loop-from l = (l.from ≤ length l.fn.places) × (l.from ≡ 0 → length l.fn.places ≡ 0)
    × ((s : Parts) → Agrees l.fn.held s
    → list_any (λ place. is_settled (slot_at l.fn.shape s l.fn.table place) l.fn.own.snapshot.stamp) (drop l.from l.fn.places) ≡ false)

abbrev pub decreases-loop-from : goal.decreases-loop-from
decreases-loop-from l = l.from
