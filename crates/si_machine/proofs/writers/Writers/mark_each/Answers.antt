use Rattle.std.proofs.Common.{◌≡◌, ◌∙◌, ◌++◌, ◌∷◌, [], List, Bool, ap, sym, subst, append-nil, refl, IsSome}
use Rattle.std.specs.Prelude.{if◌then◌else◌}
use Rattle.std.specs.List.Sorted.{IsStrictlySortedBy}
use Rattle.std.proofs.lemmas.Map.Keys.{sorted_tail}
use Rattle.isolation_spec.specs.Contents.{place_cmp, at_place}
use Rattle.isolation_spec.specs.declared.place.Place.{Place}
use Rattle.si_machine.specs.Kept.{numbers_at}
use Rattle.si_machine.specs.declared.writers.Writers.{Writers}
use Rattle.si_machine.proofs.Marks.{is_among, among-written, first-among, has-same, no-room, marked-one, room-left, roomy-found, Wrote}
use Rattle.si_machine.proofs.writers.Writers.mark_each.Goals as goal

pub loop-place-init : goal.loop-place-init
loop-place-init c =
    let whole = c.into_iter-place-iterator.ensures.into_iter_gives ∙ c.keys-place-items.ensures.rest in
    record {
      sorted = subst (IsStrictlySortedBy place_cmp) (sym whole) c.keys-place-items.ensures.ordered;
      numbers = λ place. ap (λ (b : Bool). numbers_at c.args.self.now place ++ (if b then c.args.number ∷ [] else [])) (sym (among-written place c.args.writes.now.entries _ whole));
      same = λ place. refl;
      room = λ place among. c.requires.room place (among-written place c.args.writes.now.entries _ whole ∙ among);
    }

pub push_reserved-requires : goal.push_reserved-requires
push_reserved-requires c =
    let inv = c.loop-place.invariant in
    let taken = c.in-Some.ensures.steps in
    roomy-found _ _ (sym c.in-Some-get_mut.ensures.value)
    (inv.room c.in-Some.place.now (ap (is_among c.in-Some.place.now) taken ∙ first-among c.in-Some.place.now c.next.new.self))

pub loop-place-preserved-in-Some-get_mut : goal.loop-place-preserved-in-Some-get_mut
loop-place-preserved-in-Some-get_mut c =
    let inv = c.loop-place.invariant in
    let taken = c.in-Some.ensures.steps in
    let now : Writers = record { places = c.get_mut.follows.lender c.push_reserved.new.self } in
    let written = c.get_mut.follows.holds c.push_reserved.new.self in
    let sorted : IsStrictlySortedBy place_cmp (c.in-Some.place.now ∷ c.next.new.self) = subst (IsStrictlySortedBy place_cmp) taken inv.sorted in
    let found : at_place c.loop-place.self.places.entries c.in-Some.place.now ≡ _ = sym c.in-Some-get_mut.ensures.value in
    let wrote : Wrote c.loop-place.self now c.in-Some.place.now c.in-Some-get_mut.numbers.now c.push_reserved.new.self =
    record { found = found; after = (written.3 (subst IsSome (sym found) refl)).0 } in
    record {
      sorted = sorted_tail place_cmp c.in-Some.place.now c.next.new.self sorted;
      numbers = λ place.
          marked-one c.loop-place.self now c.in-Some.place.now c.in-Some-get_mut.numbers.now c.push_reserved.new.self c.args.number wrote c.push_reserved.ensures.items c.next.new.self sorted place
          ∙ sym (ap (λ (ks : List Place). numbers_at c.loop-place.self place ++ (if is_among place ks then c.args.number ∷ [] else [])) taken)
          ∙ inv.numbers place;
      same = λ place. has-same c.loop-place.self now c.in-Some.place.now c.in-Some-get_mut.numbers.now c.push_reserved.new.self wrote place ∙ inv.same place;
      room = room-left c.loop-place.self now c.in-Some.place.now c.in-Some-get_mut.numbers.now c.push_reserved.new.self wrote c.next.new.self sorted
          (λ place among. inv.room place (ap (is_among place) taken ∙ among));
    }

pub loop-place-preserved : goal.loop-place-preserved
loop-place-preserved c =
    let inv = c.loop-place.invariant in
    let room = inv.room c.in-Some.place.now (ap (is_among c.in-Some.place.now) c.in-Some.ensures.steps ∙ first-among c.in-Some.place.now c.next.new.self) in
    absurd (no-room _ (sym c.in_default.ensures.value) room)

pub returns-clause-numbers : goal.returns-clause-numbers
returns-clause-numbers c = λ place.
    let inv = c.loop-place.invariant in
    let done = c.in-None.ensures.steps.0 in
    sym (append-nil (numbers_at c.loop-place.self place))
    ∙ sym (ap (λ (ks : List Place). numbers_at c.loop-place.self place ++ (if is_among place ks then c.args.number ∷ [] else [])) done)
    ∙ inv.numbers place

pub returns-clause-same : goal.returns-clause-same
returns-clause-same c = c.loop-place.invariant.same
