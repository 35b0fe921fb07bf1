use Rattle.std.proofs.Common.{ℕ, List, Option, Some, is_some, sym, ap, ◌∙◌, refl, arith}
use Rattle.block_spec.specs.Slots.{Row, seen}
use Rattle.event_spec.specs.Judged.{first_at}
use Rattle.event_spec.specs.Parts.{slot_at}
use Rattle.core_events.proofs.Places.{next_among, drop_end, drop_next, answers, passed}
use Rattle.core_events.proofs.finds.first_seen.Goals as goal

pub loop-place-init : goal.loop-place-init
loop-place-init g c = (λ s agrees. refl, omega arith)

pub seen_at-requires : goal.seen_at-requires
seen_at-requires g c = c.requires c.place-item.result (next_among c.args.places.now c.loop-place.place-index c.place-item.result (omega arith) c.place-item.is)

pub returns-in_err-row-clause-steps : goal.returns-in_err-row-clause-steps
returns-in_err-row-clause-steps g c = let inv = c.loop-place.invariant.1 in let one = c.seen_at.ensures.steps in omega (arith, inv, one)

pub returns-in-Some-clause-row : goal.returns-in-Some-clause-row
returns-in-Some-clause-row g c = λ s agrees.
    let answer : ℕ → Option Row = λ place. seen (slot_at c.args.shape.now s c.args.table place) c.args.own.now.snapshot.stamp c.args.own.now.session in
    answers answer c.args.places.now c.loop-place.place-index c.place-item.result (Some c.in-Some.row)
    (drop_next c.args.places.now c.loop-place.place-index c.place-item.result (omega arith) c.place-item.is)
    (c.loop-place.invariant.0 s agrees) (sym (c.in_ok-row.ensures.row s agrees) ∙ c.in-Some.is) refl

pub returns-in-Some-clause-steps : goal.returns-in-Some-clause-steps
returns-in-Some-clause-steps g c = let inv = c.loop-place.invariant.1 in let one = c.seen_at.ensures.steps in omega (arith, inv, one)

pub loop-place-preserved : goal.loop-place-preserved
loop-place-preserved g c = (
  λ s agrees.
      let answer : ℕ → Option Row = λ place. seen (slot_at c.args.shape.now s c.args.table place) c.args.own.now.snapshot.stamp c.args.own.now.session in
      passed answer c.args.places.now c.loop-place.place-index c.place-item.result
      (drop_next c.args.places.now c.loop-place.place-index c.place-item.result (omega arith) c.place-item.is)
      (c.loop-place.invariant.0 s agrees) (ap is_some (sym (c.in_ok-row.ensures.row s agrees) ∙ c.in_default.is)),
  let inv = c.loop-place.invariant.1 in let one = c.seen_at.ensures.steps in omega (arith, inv, one),
)

pub returns-clause-row : goal.returns-clause-row
returns-clause-row g c = λ s agrees.
    ap (λ (ps : List ℕ). first_at (λ place. seen (slot_at c.args.shape.now s c.args.table place) c.args.own.now.snapshot.stamp c.args.own.now.session) ps) (sym (drop_end c.args.places.now c.loop-place.place-index (omega arith)))
    ∙ c.loop-place.invariant.0 s agrees

pub returns-clause-steps : goal.returns-clause-steps
returns-clause-steps g c = let inv = c.loop-place.invariant.1 in omega (arith, inv)
