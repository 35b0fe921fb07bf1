-- Marks at places of a list, by which what stands up to a place is counted, and the highest there
-- is found.
use Rattle.std.specs.Prelude.{◌≡◌, ℕ, ◌+◌, ◌*◌, ◌^◌, ◌<◌, ◌≤◌, ◌⊎◌, max, Bool, true, nat_lt, List}
use Rattle.std.specs.Prelude.{[], ◌∷◌, take, drop, length, count_by, sum_by, Option, None}
use Rattle.std.specs.Prelude.{if◌then◌else◌}
use Rattle.std.specs.List.{filter, last_or, list_all}
use Rattle.std.specs.List.Sorted.{IsNonDecreasing, IsNonDecreasingBy}
use Rattle.std.specs.Option.{option_map_or}
use Rattle.mark_index.specs.declared.marks.Peak.{Peak}
use Rattle.mark_index.specs.declared.marks.Sum.{Sum}

-- The highest value among the elements, 0 where there are none.
abbrev pub highest : {X : Type 0} → (X → ℕ) → List X → ℕ
highest value [] = 0
highest value (x ∷ xs) = max (value x) (highest value xs)

-- the elements from one place up to another
abbrev pub part : {X : Type 0} → ℕ → ℕ → List X → List X
part from to xs = drop from (take to xs)

-- how many of the places are below one
abbrev pub count_below : ℕ → List ℕ → ℕ
count_below place places = count_by (λ other. nat_lt other place) places

-- The places are those of the first so many elements that pass a test: they count those up to each
-- place.
pub record AreCounted {X : Type 0} (test : X → Bool) (xs : List X) (taken : ℕ) (places : List ℕ) : Type 0 where
  pub rise : IsNonDecreasing places
  pub within : list_all (λ place. nat_lt place taken) places ≡ true
  pub count : (place : ℕ) → place ≤ taken → count_below place places ≡ count_by test (take place xs)

-- the last peak below a place
abbrev pub last_below : ℕ → List Peak → Option Peak
last_below place peaks = last_or None (filter (λ peak. nat_lt peak.place place) peaks)

-- the highest value up to a place, and that from a start up to the place
abbrev pub most_below : ℕ → List Peak → ℕ
most_below place peaks = option_map_or (λ peak. peak.most) (last_below place peaks) 0

abbrev pub own_below : ℕ → ℕ → List Peak → ℕ
own_below start place peaks = option_map_or
    (λ peak. if nat_lt peak.place start then 0 else peak.own) (last_below place peaks) 0

-- The peaks are those of the first so many elements: they tell the highest value up to each place,
-- and from the start of the place's own part up to it.
pub record ArePeaks {X : Type 0} (value : X → ℕ) (starts : ℕ → ℕ) (xs : List X) (taken : ℕ) (peaks : List Peak) : Type 0 where
  pub rise : IsNonDecreasingBy (λ peak. peak.place) peaks
  pub within : list_all (λ peak. nat_lt peak.place taken) peaks ≡ true
  pub most : (place : ℕ) → place ≤ taken → most_below place peaks ≡ highest value (take place xs)
  pub own : (place : ℕ) → place ≤ taken → place < length xs → own_below (starts place) place peaks
      ≡ highest value (part (starts place) place xs)

-- each part begins at its place or where the part of the place in front begins
pub record AreStarts {X : Type 0} (xs : List X) (starts : ℕ → ℕ) : Type 0 where
  pub up_to : (place : ℕ) → place < length xs → starts place ≤ place
  pub go_on : (place : ℕ) → place + 1 < length xs → (starts (place + 1) ≡ place + 1)
      ⊎ (starts (place + 1) ≡ starts place)

-- the peak that follows others at a place, whose part begins at a start
abbrev pub next_peak : List Peak → ℕ → ℕ → ℕ → Peak
next_peak peaks place start value = record {
  place = place;
  most = max (most_below place peaks) value;
  own = max (own_below start place peaks) value;
}

-- the last sum below a place, and what it tells up to the place
abbrev pub last_sum : ℕ → List Sum → Option Sum
last_sum place sums = last_or None (filter (λ sum. nat_lt sum.place place) sums)

abbrev pub total_below : ℕ → List Sum → ℕ
total_below place sums = option_map_or (λ sum. sum.total) (last_sum place sums) 0

-- The sums are those of the first so many elements: they tell the sum of the values up to each
-- place, each of 64 bits.
pub record AreSums {X : Type 0} (value : X → ℕ) (xs : List X) (taken : ℕ) (sums : List Sum) : Type 0 where
  pub rise : IsNonDecreasingBy (λ sum. sum.place) sums
  pub within : list_all (λ sum. nat_lt sum.place taken) sums ≡ true
  pub total : (place : ℕ) → place ≤ taken → total_below place sums ≡ sum_by value (take place xs)
  pub small : (place : ℕ) → place ≤ taken → total_below place sums ≤ place * 2 ^ 64

-- the sum that follows others at a place
abbrev pub next_sum : List Sum → ℕ → ℕ → Sum
next_sum sums place value = record { place = place; total = total_below place sums + value }
