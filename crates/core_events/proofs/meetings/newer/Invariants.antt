use Rattle.std.proofs.Common.{◌≡◌, drop}
use Rattle.event_spec.specs.Parts.{Parts, slot_at}
use Rattle.hall_rule.specs.Hands.{Agrees}
use Rattle.core_laws.specs.Slots.Laws.{combined, combined_over}
use Rattle.core_events.proofs.meetings.newer.Given as goal

abbrev pub invariant-loop-place : goal.invariant-loop-place
invariant-loop-place l = (s : Parts) → Agrees l.fn.held s
    → combined l.newer (combined_over (slot_at l.fn.shape s l.fn.table) (drop l.place-index l.fn.places) l.fn.own.snapshot.stamp l.fn.own.session)
    ≡ combined_over (slot_at l.fn.shape s l.fn.table) l.fn.places l.fn.own.snapshot.stamp l.fn.own.session
