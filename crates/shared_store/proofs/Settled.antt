-- What is kept behind a write, by what was entered before it.
use Rattle.std.proofs.Common.{◌≡◌, true, false, Option, None, Some, is_some, refl, sym, ap, subst, ◌∙◌, true≢false}
use Rattle.std.specs.Map.{remove_entry}
use Rattle.isolation_spec.specs.Contents.{WriteSet, at_place, is_place}
use Rattle.isolation_spec.specs.declared.place.Place.{Place}
use Rattle.shared_store.specs.Entering.{IsEntered, MayBeEntered, MayBeHeldFor}
use Rattle.shared_store.specs.KeptCommits.{RowView, WritesView, with_change}
use Rattle.shared_store.proofs.Places.{laid_away}

-- what was entered for a write that was refused is taken away
pub entered_away : (place : Place) (change : Option RowView) (before now new : WritesView) → IsEntered place change before now None
    → new ≡ record now { own = remove_entry (is_place place) now.own } → new ≡ with_change place change false before
entered_away place change before now new is away =
    away
    ∙ ap (λ (w : WritesView). let left : WritesView = record w { own = remove_entry (is_place place) w.own } in left) is.0
    ∙ ap (λ (own : WriteSet). let left : WritesView = record before { own = own } in left) (laid_away before.own place change (none_is (at_place before.own place) is.1))
  where
    none_is : (o : Option (Option RowView)) → is_some o ≡ false → o ≡ None
    none_is None h = refl
    none_is (Some x) h = absurd (true≢false h)

-- what is held back is for a place that was written
pub held_for : (place : Place) (change : Option RowView) (before now : Option WritesView) (held : Option (Option RowView)) → MayBeEntered place change before now held → MayBeHeldFor place now held
held_for place change None now held is = subst (λ (now : Option WritesView). MayBeHeldFor place now held) (sym is) tt
held_for place change (Some before) now None is = subst (λ (now : Option WritesView). MayBeHeldFor place now None) (sym is.1) tt
held_for place change (Some before) now (Some row) is =
    let last : IsEntered place change before is.0 (Some row) = is.2 in
    subst (λ (now : Option WritesView). MayBeHeldFor place now (Some row)) (sym is.1)
    (subst (λ (w : WritesView). is_some (at_place w.own place) ≡ true) (sym last.1) last.2)
