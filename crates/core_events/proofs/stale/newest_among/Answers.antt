use Rattle.std.proofs.Common.{◌+◌, ℕ, List, drop, sym, ap, ◌∙◌, arith}
use Rattle.std.specs.List.{flat_map}
use Rattle.core_events.proofs.Judging.{larger_none, larger_thrice, largest_two}
use Rattle.core_events.proofs.Places.{drop_end, drop_next, next_among}
use Rattle.core_events.specs.Stale.{larger}
use Rattle.event_spec.specs.Parts.{slot_at}
use Rattle.undo_chain.specs.Conflict.{largest, numbers_above}
use Rattle.core_events.proofs.stale.newest_among.Goals as goal

pub newest_at-requires : goal.newest_at-requires
newest_at-requires c = c.requires c.place-item.result (next_among c.args.places.now c.loop-place.place-index c.place-item.result (omega arith) c.place-item.is)

pub loop-place-preserved : goal.loop-place-preserved
loop-place-preserved c = λ s agrees.
    let numbers : ℕ → List ℕ = λ place. numbers_above (slot_at c.args.shape.now s c.args.table place).entries c.args.snapshot.stamp in
    let rest : List ℕ = drop (c.loop-place.place-index + 1) c.args.places.now in
    ap (λ o. larger o (largest (flat_map numbers rest))) c.larger-newest.ensures
    ∙ larger_thrice c.loop-place.newest c.newest_at.result (largest (flat_map numbers rest))
    ∙ ap (λ o. larger c.loop-place.newest (larger o (largest (flat_map numbers rest)))) (c.newest_at.ensures s agrees)
    ∙ ap (larger c.loop-place.newest) (sym (largest_two (numbers c.place-item.result) (flat_map numbers rest)))
    ∙ ap (λ (ps : List ℕ). larger c.loop-place.newest (largest (flat_map numbers ps))) (sym (drop_next c.args.places.now c.loop-place.place-index c.place-item.result (omega arith) c.place-item.is))
    ∙ c.loop-place.invariant s agrees

pub returns : goal.returns
returns c = λ s agrees.
    let numbers : ℕ → List ℕ = λ place. numbers_above (slot_at c.args.shape.now s c.args.table place).entries c.args.snapshot.stamp in
    sym (larger_none c.loop-place.newest)
    ∙ ap (λ (ps : List ℕ). larger c.loop-place.newest (largest (flat_map numbers ps))) (sym (drop_end c.args.places.now c.loop-place.place-index (omega arith)))
    ∙ c.loop-place.invariant s agrees
