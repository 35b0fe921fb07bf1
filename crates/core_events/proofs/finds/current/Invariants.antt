use Rattle.std.proofs.Common.{◌≡◌, drop}
use Rattle.event_spec.specs.Judged.{current_place}
use Rattle.event_spec.specs.Parts.{Parts, slot_at}
use Rattle.hall_rule.specs.Hands.{Agrees}
use Rattle.core_events.proofs.finds.current.Given as goal

abbrev pub invariant-loop-place : goal.invariant-loop-place
invariant-loop-place l = (s : Parts) → Agrees l.fn.held s
    → current_place (slot_at l.fn.shape s l.fn.table) (drop l.place-index l.fn.places) ≡ current_place (slot_at l.fn.shape s l.fn.table) l.fn.places
