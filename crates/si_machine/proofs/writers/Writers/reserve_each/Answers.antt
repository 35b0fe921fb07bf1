use Rattle.std.proofs.Common.{◌≡◌, ◌∙◌, true, false, true≢false, ap, sym, subst, refl, IsSome, is_some, arith}
use Rattle.std.proofs.lemmas.Bool.{or_right}
use Rattle.isolation_spec.specs.Contents.{at_place, is_place}
use Rattle.isolation_spec.specs.Machine.{writes_place}
use Rattle.si_machine.specs.Kept.{has_place}
use Rattle.si_machine.specs.declared.writers.Writers.{Writers}
use Rattle.si_machine.proofs.Marks.{is_among, among-written, first-among, has-same, numbers-same, room-made, Wrote}
use Rattle.si_machine.proofs.writers.Writers.reserve_each.Goals as goal

pub loop-place-init : goal.loop-place-init
loop-place-init c =
    let whole = c.into_iter-place-iterator.ensures.into_iter_gives ∙ c.keys-place-items.ensures.rest in
    record {
      numbers = λ place. refl;
      same = λ place. refl;
      written = λ place among. among-written place c.args.writes.now.entries _ whole ∙ among;
      room = λ place written apart. absurd (true≢false (sym written ∙ among-written place c.args.writes.now.entries _ whole ∙ apart));
    }

pub loop-place-preserved-in-Continue-1 : goal.loop-place-preserved-in-Continue-1
loop-place-preserved-in-Continue-1 c =
    let inv = c.loop-place.invariant in
    let now : Writers = record { places = c.get_mut.follows.lender c.reserve.new.self } in
    let found : at_place c.loop-place.self.places.entries c.in-Some.place.now ≡ _ = sym c.in-Some-get_mut.ensures.value in
    let wrote : Wrote c.loop-place.self now c.in-Some.place.now c.in-Some-get_mut.numbers.now c.reserve.new.self =
    record { found = found; after = ((c.get_mut.follows.holds c.reserve.new.self).3 (subst IsSome (sym found) refl)).0 } in
    record {
      numbers = λ place. numbers-same c.loop-place.self now c.in-Some.place.now c.in-Some-get_mut.numbers.now c.reserve.new.self wrote c.in_ok-reserve.ensures.items place ∙ inv.numbers place;
      same = λ place. has-same c.loop-place.self now c.in-Some.place.now c.in-Some-get_mut.numbers.now c.reserve.new.self wrote place ∙ inv.same place;
      written = λ place among. inv.written place (ap (is_among place) c.in-Some.ensures.steps ∙ or_right (is_place place c.in-Some.place.now) (is_among place c.next.new.self) among);
      room = room-made c.loop-place.self now c.in-Some.place.now c.in-Some-get_mut.numbers.now c.reserve.new.self wrote
          (let room = c.in_ok-reserve.ensures.ok in omega (arith, room))
          (λ place. writes_place place c.args.writes.now.entries) c.next.new.self
          (λ place written past. inv.room place written (ap (is_among place) c.in-Some.ensures.steps ∙ past));
    }

pub returns-in_err-reserve-clause-numbers : goal.returns-in_err-reserve-clause-numbers
returns-in_err-reserve-clause-numbers c = λ place.
    let now : Writers = record { places = c.get_mut.follows.lender c.reserve.new.self } in
    let found : at_place c.loop-place.self.places.entries c.in-Some.place.now ≡ _ = sym c.in-Some-get_mut.ensures.value in
    let wrote : Wrote c.loop-place.self now c.in-Some.place.now c.in-Some-get_mut.numbers.now c.reserve.new.self =
    record { found = found; after = ((c.get_mut.follows.holds c.reserve.new.self).3 (subst IsSome (sym found) refl)).0 } in
    numbers-same c.loop-place.self now c.in-Some.place.now c.in-Some-get_mut.numbers.now c.reserve.new.self wrote c.reserve.ensures.items place ∙ c.loop-place.invariant.numbers place

pub returns-in_err-reserve-clause-same : goal.returns-in_err-reserve-clause-same
returns-in_err-reserve-clause-same c = λ place.
    let now : Writers = record { places = c.get_mut.follows.lender c.reserve.new.self } in
    let found : at_place c.loop-place.self.places.entries c.in-Some.place.now ≡ _ = sym c.in-Some-get_mut.ensures.value in
    let wrote : Wrote c.loop-place.self now c.in-Some.place.now c.in-Some-get_mut.numbers.now c.reserve.new.self =
    record { found = found; after = ((c.get_mut.follows.holds c.reserve.new.self).3 (subst IsSome (sym found) refl)).0 } in
    has-same c.loop-place.self now c.in-Some.place.now c.in-Some-get_mut.numbers.now c.reserve.new.self wrote place ∙ c.loop-place.invariant.same place

pub loop-place-preserved : goal.loop-place-preserved
loop-place-preserved c =
    let inv = c.loop-place.invariant in
    let place = c.in-Some.place.now in
    let among : is_among place c.loop-place.place-iterator ≡ true = ap (is_among place) c.in-Some.ensures.steps ∙ first-among place c.next.new.self in
    let had : has_place c.loop-place.self place ≡ true = inv.same place ∙ c.requires place (inv.written place among) in
    let gone : has_place c.loop-place.self place ≡ false = ap is_some (sym c.in_default.ensures.value) in
    absurd (true≢false (sym had ∙ gone))

pub returns-clause-numbers : goal.returns-clause-numbers
returns-clause-numbers c = c.loop-place.invariant.numbers

pub returns-clause-same : goal.returns-clause-same
returns-clause-same c = c.loop-place.invariant.same

pub returns-clause-room : goal.returns-clause-room
returns-clause-room c = λ place written. c.loop-place.invariant.room place written (ap (is_among place) c.in-None.ensures.steps.0)
