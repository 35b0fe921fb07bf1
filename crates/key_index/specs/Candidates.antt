-- The index of a table: the places at which a key may stand.
use Rattle.std.specs.Prelude.{◌≡◌, ◌==◌, ℕ, ℤ, Bool, List, [], ◌∷◌, option_map, unwrap_or, remove}
use Rattle.std.specs.Prelude.{count_by, position}
use Rattle.std.specs.List.Sorted.{IsNonDecreasing}
use Rattle.std.specs.Ordering.{int_cmp}
use Rattle.std.specs.FinMap as map

-- An index seen as a finite map: the places of each key that has any.
abbrev pub Places : Type 0
Places = map.FinMap int_cmp (List ℕ)

-- The candidates of a key, none where the map has no entry of it.
abbrev pub candidates_of : Places → ℤ → List ℕ
candidates_of index key = unwrap_or (map.get index key) []

-- The index with these candidates for a key: a key without candidates has no entry.
abbrev pub with_candidates : Places → ℤ → List ℕ → Places
with_candidates index key [] = map.remove index key
with_candidates index key (place ∷ places) = map.insert index key (place ∷ places)

-- The places without the first that is a given one, or all of them where none is.
abbrev pub without : ℕ → List ℕ → List ℕ
without place places = unwrap_or
    (option_map (remove places) (position (λ other. other == place) places)) places

-- Places that ascend, each as often as among the others.
pub record IsInOrder (places ascending : List ℕ) : Type 0 where
  pub same : (test : ℕ → Bool) → count_by test ascending ≡ count_by test places
  pub rises : IsNonDecreasing ascending
