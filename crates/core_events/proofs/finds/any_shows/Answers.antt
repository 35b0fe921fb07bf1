use Rattle.std.proofs.Common.{◌≡◌, ℕ, true, List, Option, is_some, sym, ap, ◌∙◌, refl, arith}
use Rattle.block_spec.specs.Slots.{Row, seen}
use Rattle.event_spec.specs.Judged.{first_at}
use Rattle.event_spec.specs.Parts.{slot_at}
use Rattle.core_events.proofs.Places.{next_among, drop_end, drop_next, answers, passed}
use Rattle.core_events.proofs.finds.any_shows.Goals as goal

pub shows_at-requires : goal.shows_at-requires
shows_at-requires c = c.requires c.place-item.result (next_among c.args.places.now c.loop-place.place-index c.place-item.result (omega arith) c.place-item.is)

pub returns-then-shows_at : goal.returns-then-shows_at
returns-then-shows_at c = λ s agrees.
    let answer : ℕ → Option Row = λ place. seen (slot_at c.args.shape.now s c.args.table place) c.args.own.now.snapshot.stamp c.args.own.now.session in
    let there : true ≡ is_some (answer c.place-item.result) = sym c.if-shows_at.true ∙ c.shows_at.ensures s agrees in
    there ∙ ap is_some (answers answer c.args.places.now c.loop-place.place-index c.place-item.result (answer c.place-item.result)
    (drop_next c.args.places.now c.loop-place.place-index c.place-item.result (omega arith) c.place-item.is)
    (c.loop-place.invariant s agrees) refl (sym there))

pub loop-place-preserved : goal.loop-place-preserved
loop-place-preserved c = λ s agrees.
    let answer : ℕ → Option Row = λ place. seen (slot_at c.args.shape.now s c.args.table place) c.args.own.now.snapshot.stamp c.args.own.now.session in
    passed answer c.args.places.now c.loop-place.place-index c.place-item.result
    (drop_next c.args.places.now c.loop-place.place-index c.place-item.result (omega arith) c.place-item.is)
    (c.loop-place.invariant s agrees) (sym (c.shows_at.ensures s agrees) ∙ c.if-shows_at.false)

pub returns : goal.returns
returns c = λ s agrees.
    ap is_some (ap (λ (ps : List ℕ). first_at (λ place. seen (slot_at c.args.shape.now s c.args.table place) c.args.own.now.snapshot.stamp c.args.own.now.session) ps) (sym (drop_end c.args.places.now c.loop-place.place-index (omega arith)))
    ∙ c.loop-place.invariant s agrees)
