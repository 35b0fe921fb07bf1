use Rattle.std.proofs.Common.{◌≡◌, true, false}
use Rattle.isolation_spec.specs.Machine.{writes_place}
use Rattle.isolation_spec.specs.declared.place.Place.{Place}
use Rattle.si_machine.specs.Kept.{HasRoom, has_place, numbers_at}
use Rattle.si_machine.proofs.Marks.{is_among}
use Rattle.si_machine.proofs.writers.Writers.reserve_each.Given as goal

abbrev pub invariant-loop-place : goal.invariant-loop-place
invariant-loop-place l = record {
  numbers : (place : Place) → numbers_at l.self place ≡ numbers_at l.fn.self place;
  same : (place : Place) → has_place l.self place ≡ has_place l.fn.self place;
  written : (place : Place) → is_among place l.place-iterator ≡ true → writes_place place l.fn.writes.entries ≡ true;
  room : (place : Place) → writes_place place l.fn.writes.entries ≡ true → is_among place l.place-iterator ≡ false → HasRoom l.self place;
}
