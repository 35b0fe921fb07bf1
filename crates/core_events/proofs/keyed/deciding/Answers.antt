use Rattle.std.proofs.Common.{◌≡◌, ℕ, ◌+◌, ◌-◌, Bool, List, drop, sym, ap, ◌∙◌, subst, arith}
use Rattle.std.specs.List.{list_any}
use Rattle.block_body.specs.Ages.{is_settled}
use Rattle.core_events.proofs.Decided.{all_from, drop_among, last_at, none_from, rest_taken}
use Rattle.core_events.proofs.Places.{drop_next, next_among}
use Rattle.event_spec.specs.Lawful.{Among}
use Rattle.event_spec.specs.Parts.{slot_at}
use Rattle.core_events.proofs.keyed.deciding.Goals as goal

pub is_settled_at-requires : goal.is_settled_at-requires
is_settled_at-requires c =
    let bound = c.loop-from.invariant.0 in let more = c.loop-from-test.true in
    c.requires c.index-places-from.result (next_among c.args.places.now (c.loop-from.from - 1) c.index-places-from.result (omega (arith, bound, more)) c.index-places-from.is)

pub returns-then-is_settled_at-clause-slots : goal.returns-then-is_settled_at-clause-slots
returns-then-is_settled_at-clause-slots c = λ place a.
    c.requires place (drop_among c.args.places.now (c.loop-from.from - 1) place (subst (Among place) (rest_taken c.args.places.now (c.loop-from.from - 1)) a))

pub returns-then-is_settled_at-clause-deciding : goal.returns-then-is_settled_at-clause-deciding
returns-then-is_settled_at-clause-deciding c = λ s agrees.
    let bound = c.loop-from.invariant.0 in let more = c.loop-from-test.true in
    let test : ℕ → Bool = λ place. is_settled (slot_at c.args.shape.now s c.args.table place) c.args.own.now.snapshot.stamp in
    let places : List ℕ = c.args.places.now in
    let i : ℕ = c.loop-from.from - 1 in
    let behind : c.loop-from.from - 1 + 1 ≡ c.loop-from.from = omega (arith, more) in
    rest_taken c.args.places.now (c.loop-from.from - 1)
    ∙ sym (last_at test places i c.index-places-from.result (drop_next c.args.places.now (c.loop-from.from - 1) c.index-places-from.result (omega (arith, bound, more)) c.index-places-from.is)
    (sym (c.is_settled_at.ensures s agrees) ∙ c.if-is_settled_at.true) (ap (λ n. list_any test (drop n places)) behind ∙ c.loop-from.invariant.2 s agrees))

pub loop-from-preserved : goal.loop-from-preserved
loop-from-preserved c =
    let bound = c.loop-from.invariant.0 in let more = c.loop-from-test.true in (
      omega (arith, bound, more),
      (λ zero. absurd (omega (arith, more, zero))),
      λ s agrees.
          let test : ℕ → Bool = λ place. is_settled (slot_at c.args.shape.now s c.args.table place) c.args.own.now.snapshot.stamp in
          let places : List ℕ = c.args.places.now in
          let i : ℕ = c.loop-from.from - 1 in
          let behind : c.loop-from.from - 1 + 1 ≡ c.loop-from.from = omega (arith, more) in
          none_from test places i c.index-places-from.result (drop_next c.args.places.now (c.loop-from.from - 1) c.index-places-from.result (omega (arith, bound, more)) c.index-places-from.is)
          (sym (c.is_settled_at.ensures s agrees) ∙ c.if-is_settled_at.false) (ap (λ n. list_any test (drop n places)) behind ∙ c.loop-from.invariant.2 s agrees),
    )

pub returns-clause-deciding : goal.returns-clause-deciding
returns-clause-deciding c = λ s agrees.
    let few = c.loop-from-test.false in
    sym (all_from (λ place. is_settled (slot_at c.args.shape.now s c.args.table place) c.args.own.now.snapshot.stamp) c.args.places.now c.loop-from.from
    (omega (arith, few)) c.loop-from.invariant.1 (c.loop-from.invariant.2 s agrees))
