use Rattle.std.proofs.Common.{◌≡◌, true, [], ◌∷◌, ◌++◌}
use Rattle.std.specs.Prelude.{if◌then◌else◌}
use Rattle.std.specs.List.Sorted.{IsStrictlySortedBy}
use Rattle.isolation_spec.specs.Contents.{place_cmp}
use Rattle.isolation_spec.specs.Machine.{writes_place}
use Rattle.isolation_spec.specs.declared.place.Place.{Place}
use Rattle.si_machine.specs.Kept.{HasRoom, has_place, numbers_at}
use Rattle.si_machine.proofs.Marks.{is_among}
use Rattle.si_machine.proofs.writers.Writers.mark_each.Given as goal

abbrev pub invariant-loop-place : goal.invariant-loop-place
invariant-loop-place l = record {
  sorted : IsStrictlySortedBy place_cmp l.place-iterator;
  numbers : (place : Place) → numbers_at l.self place ++ (if is_among place l.place-iterator then l.number ∷ [] else [])
      ≡ numbers_at l.fn.self place ++ (if writes_place place l.fn.writes.entries then l.number ∷ [] else []);
  same : (place : Place) → has_place l.self place ≡ has_place l.fn.self place;
  room : (place : Place) → is_among place l.place-iterator ≡ true → HasRoom l.self place;
}
