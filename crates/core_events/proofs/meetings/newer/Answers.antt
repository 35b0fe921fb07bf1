use Rattle.std.proofs.Common.{ℕ, List, sym, ap, ◌∙◌, arith}
use Rattle.event_spec.specs.Parts.{slot_at}
use Rattle.core_events.proofs.Places.{next_among, drop_end, combined_nothing}
use Rattle.core_laws.proofs.Slots.Meetings.{newer_over}
use Rattle.core_laws.specs.Slots.Laws.{combined, combined_over}
use Rattle.core_events.proofs.meetings.newer.Goals as goal

pub newer_at-requires : goal.newer_at-requires
newer_at-requires c = c.requires c.place-item.result (next_among c.args.places.now c.loop-place.place-index c.place-item.result (omega arith) c.place-item.is)

pub returns : goal.returns
returns c = λ s agrees.
    let slot = slot_at c.args.shape.now s c.args.table in
    let stamp = c.args.own.now.snapshot.stamp in let session = c.args.own.now.session in
    sym (combined_nothing c.loop-place.newer)
    ∙ ap (λ (ps : List ℕ). combined c.loop-place.newer (combined_over slot ps stamp session)) (sym (drop_end c.args.places.now c.loop-place.place-index (omega arith)))
    ∙ c.loop-place.invariant s agrees ∙ sym (newer_over slot c.args.places.now stamp session)
