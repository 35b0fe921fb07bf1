use Rattle.std.proofs.Common.{◌≡◌, drop}
use Rattle.std.specs.List.{flat_map}
use Rattle.core_events.specs.Stale.{larger}
use Rattle.event_spec.specs.Parts.{Parts, slot_at}
use Rattle.hall_rule.specs.Hands.{Agrees}
use Rattle.undo_chain.specs.Conflict.{largest, numbers_above}
use Rattle.core_events.proofs.stale.newest_among.Given as goal

abbrev pub invariant-loop-place : goal.invariant-loop-place
invariant-loop-place l = (s : Parts) → Agrees l.fn.held s
    → larger l.newest (largest (flat_map (λ place. numbers_above (slot_at l.fn.shape s l.fn.table place).entries l.fn.snapshot.stamp) (drop l.place-index l.fn.places)))
    ≡ largest (flat_map (λ place. numbers_above (slot_at l.fn.shape s l.fn.table place).entries l.fn.snapshot.stamp) l.fn.places)
