use Rattle.std.proofs.Common.{◌≡◌, drop}
use Rattle.block_spec.specs.Slots.{seen}
use Rattle.event_spec.specs.Judged.{first_at}
use Rattle.event_spec.specs.Parts.{Parts, slot_at}
use Rattle.hall_rule.specs.Hands.{Agrees}
use Rattle.core_events.proofs.finds.any_shows.Given as goal

abbrev pub invariant-loop-place : goal.invariant-loop-place
invariant-loop-place l =
    (s : Parts) → Agrees l.fn.held s → first_at (λ place. seen (slot_at l.fn.shape s l.fn.table place) l.fn.own.snapshot.stamp l.fn.own.session) (drop l.place-index l.fn.places)
    ≡ first_at (λ place. seen (slot_at l.fn.shape s l.fn.table place) l.fn.own.snapshot.stamp l.fn.own.session) l.fn.places
