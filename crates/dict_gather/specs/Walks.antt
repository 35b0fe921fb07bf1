-- Which of sorted values are new.
use Rattle.std.specs.Prelude.{◌≡◌, ℕ, ◌-◌, ◌<◌, Bool, true, false, ◌⊎◌, List, [], ◌∷◌, ◌++◌, slice_index_or, if◌then◌else◌}
use Rattle.std.specs.Ordering.{is_eq}
use Rattle.dict_gather.specs.Places.{PlacedValue, place_cmp}

-- it is told whether the value of a place is another than that of the place before
abbrev pub IsNew : List PlacedValue → ℕ → Bool → Type 0
IsNew placed at true = (at ≡ 0) ⊎ ((d : PlacedValue) → is_eq (place_cmp (slice_index_or placed (at - 1) d) (slice_index_or placed at d)) ≡ false)
IsNew placed at false = (0 < at) × ((d : PlacedValue) → is_eq (place_cmp (slice_index_or placed (at - 1) d) (slice_index_or placed at d)) ≡ true)

-- the value of a place was added behind the others where it is new
abbrev pub AddsIfNew : List PlacedValue → ℕ → List ℕ → List (List ℕ) → List (List ℕ) → Type 0
AddsIfNew placed at value old new = (is : Bool) × IsNew placed at is
    × (new ≡ (if is then old ++ value ∷ [] else old))
