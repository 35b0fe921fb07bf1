-- Around a write: what it is about to leave is entered before, so that its acceptance needs no memory.
use Rattle.std.specs.Prelude.{◌≡◌, true, false, Option, None, Some, IfSome, is_some}
use Rattle.isolation_spec.specs.Contents.{at_place}
use Rattle.isolation_spec.specs.declared.place.Place.{Place}
use Rattle.shared_store.specs.KeptCommits.{RowView, WritesView, with_change}

-- It was entered, or held back where the place was written already.
abbrev pub IsEntered
    : Place → Option RowView → WritesView → WritesView → Option (Option RowView) → Type 0
IsEntered place change before now (Some held) =
    (held ≡ change) × (now ≡ before) × (is_some (at_place before.own place) ≡ true)
IsEntered place change before now None =
    (now ≡ with_change place change true before) × (is_some (at_place before.own place) ≡ false)

-- what is held back is for a place that was written
abbrev pub IsHeldFor : Place → WritesView → Option (Option RowView) → Type 0
IsHeldFor place now held = IfSome held (λ change. is_some (at_place now.own place) ≡ true)

-- the same of one who may keep nothing
abbrev pub MayBeEntered
    : Place → Option RowView → Option WritesView → Option WritesView → Option (Option RowView)
    → Type 0
MayBeEntered place change None now held = now ≡ None
MayBeEntered place change (Some before) now held =
    (entered : WritesView) × (now ≡ Some entered) × IsEntered place change before entered held

abbrev pub MayBeHeldFor : Place → Option WritesView → Option (Option RowView) → Type 0
MayBeHeldFor place now held = IfSome now (λ now. IsHeldFor place now held)
