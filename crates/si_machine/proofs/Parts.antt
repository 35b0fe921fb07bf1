-- Parts of lists: the front up to a partition point, the last element, and what a map of lists has
-- at one index.
use Rattle.std.proofs.Common.{◌≡◌, ℕ, ◌+◌, ◌-◌, ◌<◌, ◌≤◌, zero, suc, Bool, true, false, cond, not, List, [], ◌∷◌, ◌++◌, length, map, take, get_or, nat_lt, Option, None, Some, refl, ap, ◌∙◌, subst, arith}
use Rattle.std.specs.List.{filter, last_or, slice_get, find, position, position_or_len}
use Rattle.std.proofs.lemmas.Bool.Decides.{nat_tests}
use Rattle.std.specs.Prelude.{option_map, Result, Ok, Err, OnErr}
use Rattle.std.proofs.Math.ListN.{set}

-- Where no element passes, none is kept.
filter-none : {X : Type 0} (p : X → Bool) (xs : List X) (d : X) → ((k : ℕ) → k < length xs → p (get_or xs k d) ≡ false) → filter p xs ≡ []
filter-none p [] d h = refl
filter-none p (x ∷ xs) d h =
    let none : p x ≡ false = h zero (omega arith) in
    rw none (filter-none p xs d (λ k within. h (suc k) (omega (arith, within))))

-- the elements that pass are those in front of the partition point
pub filter-take : {X : Type 0} (p : X → Bool) (xs : List X) (i : ℕ) (d : X) → i ≤ length xs
    → ((k : ℕ) → k < i → p (get_or xs k d) ≡ true) → ((k : ℕ) → i ≤ k → k < length xs → p (get_or xs k d) ≡ false) → filter p xs ≡ take i xs
filter-take p xs zero d within pass fail = filter-none p xs d (λ k below. fail k (omega arith) below)
filter-take p [] (suc i) d within pass fail = absurd (omega (arith, within))
filter-take p (x ∷ xs) (suc i) d within pass fail =
    let first : p x ≡ true = pass zero (omega arith) in
    rw first (ap (λ (ys : List _). x ∷ ys)
    (filter-take p xs i d (omega (arith, within)) (λ k below. pass (suc k) (omega (arith, below)))
    (λ k from below. fail (suc k) (omega (arith, from)) (omega (arith, below)))))

-- The element at the last index of a list with a first one is its last.
last-onto : {X : Type 0} (x : X) (xs : List X) → slice_get (x ∷ xs) (length xs) ≡ last_or (Some x) xs
last-onto x [] = refl
last-onto x (y ∷ ys) = last-onto y ys

-- the element at the last index is the last
pub last-get : {X : Type 0} (xs : List X) → slice_get xs (length xs - 1) ≡ last_or None xs
last-get [] = refl
last-get (x ∷ xs) =
    let e : suc (length xs) - 1 ≡ length xs = omega arith in
    ap (slice_get (x ∷ xs)) e ∙ last-onto x xs

-- the image of what stands at an index stands there among the images
pub get-map : {X Y : Type 0} (f : X → Y) (xs : List X) (i : ℕ) (d : X) → get_or (map f xs) i (f d) ≡ f (get_or xs i d)
get-map f [] i d = refl
get-map f (x ∷ xs) zero d = refl
get-map f (x ∷ xs) (suc i) d = get-map f xs i d

-- images of a list with an element changed are those with its image changed
pub set-map : {X Y : Type 0} (f : X → Y) (xs : List X) (i : ℕ) (x : X) → map f (set xs i x) ≡ set (map f xs) i (f x)
set-map f [] i x = refl
set-map f (y ∷ xs) zero x = refl
set-map f (y ∷ xs) (suc i) x = ap (λ (ys : List _). f y ∷ ys) (set-map f xs i x)

-- The image of a choice is the choice of the images.
chosen-map : {X Y : Type 0} (f : X → Y) (b : Bool) (x : X) (later : Option X) → cond b (Some (f x)) (option_map f later) ≡ option_map f (cond b (Some x) later)
chosen-map f true x later = refl
chosen-map f false x later = refl

-- what is found among images is the image of what is found
pub find-map : {X Y : Type 0} (f : X → Y) (p : Y → Bool) (xs : List X) → find p (map f xs) ≡ option_map f (find (λ x. p (f x)) xs)
find-map f p [] = refl
find-map f p (x ∷ xs) = ap (cond (p (f x)) (Some (f x))) (find-map f p xs) ∙ chosen-map f (p (f x)) x (find (λ x. p (f x)) xs)

-- where a position is found, the element there is the one that is found
pub record Found {X : Type 0} (p : X → Bool) (xs : List X) (at : ℕ) : Type 0 where
  pub inside : at < length xs
  pub element : X
  pub found : find p xs ≡ Some element
  pub there : (d : X) → get_or xs at d ≡ element

-- The position found with one element more in front has the element that is found.
found-first : {X : Type 0} (p : X → Bool) (b : Bool) (x : X) (xs : List X) → p x ≡ b → (position_or_len p xs < length xs → Found p xs (position_or_len p xs))
    → cond (not b) (1 + position_or_len p xs) 0 < suc (length xs) → Found p (x ∷ xs) (cond (not b) (1 + position_or_len p xs) 0)
found-first p true x xs is rest h = record { inside = omega arith; element = x; found = ap (λ (b : Bool). cond b (Some x) (find p xs)) is; there = λ d. refl }
found-first p false x xs is rest h =
    let later = rest (omega (arith, h)) in
    let next : 1 + position_or_len p xs ≡ suc (position_or_len p xs) = omega arith in
    record {
      inside = h;
      element = later.element;
      found = ap (λ (b : Bool). cond b (Some x) (find p xs)) is ∙ later.found;
      there = λ d. ap (λ (i : ℕ). get_or (x ∷ xs) i d) next ∙ later.there d;
    }

-- A position within a list has the element that is found.
found-within : {X : Type 0} (p : X → Bool) (xs : List X) → position_or_len p xs < length xs → Found p xs (position_or_len p xs)
found-within p [] h = absurd (omega (arith, h))
found-within p (x ∷ xs) h = found-first p (p x) x xs refl (found-within p xs) h

-- Where no position is within a list with one more in front, none is found.
missed-first : {X : Type 0} (p : X → Bool) (b : Bool) (x : X) (xs : List X) → p x ≡ b → (length xs ≤ position_or_len p xs → find p xs ≡ None)
    → suc (length xs) ≤ cond (not b) (1 + position_or_len p xs) 0 → cond b (Some x) (find p xs) ≡ None
missed-first p true x xs is rest h = absurd (omega (arith, h))
missed-first p false x xs is rest h = rest (omega (arith, h))

-- Where the position is past the end, no element is found.
missed-past : {X : Type 0} (p : X → Bool) (xs : List X) → length xs ≤ position_or_len p xs → find p xs ≡ None
missed-past p [] h = refl
missed-past p (x ∷ xs) h = missed-first p (p x) x xs refl (missed-past p xs) h

-- A position that is told, by whether it is within, has the element that is found.
found-by : {X : Type 0} (p : X → Bool) (xs : List X) (at : ℕ) (b : Bool) → nat_lt (position_or_len p xs) (length xs) ≡ b → cond b (Some (position_or_len p xs)) None ≡ Some at → Found p xs at
found-by p xs at true is h =
    let e : position_or_len p xs ≡ at = cc in
    let within : position_or_len p xs < length xs = grind (arith, nat_tests, is) in
    subst (Found p xs) e (found-within p xs within)
found-by p xs at false is h = absurd (let never : ⊥ = cc in never)

-- where a position is found, the element there is the first that passes
pub found-at : {X : Type 0} (p : X → Bool) (xs : List X) (at : ℕ) → position p xs ≡ Some at → Found p xs at
found-at p xs at h = found-by p xs at (nat_lt (position_or_len p xs) (length xs)) refl (h)

-- Where no position is told, by whether it is within, no element is found.
missed-by : {X : Type 0} (p : X → Bool) (xs : List X) (b : Bool) → nat_lt (position_or_len p xs) (length xs) ≡ b → cond b (Some (position_or_len p xs)) None ≡ None → find p xs ≡ None
missed-by p xs true is h = absurd (let never : ⊥ = cc in never)
missed-by p xs false is h = missed-past p xs (grind (arith, nat_tests, is))

-- where no position is found, no element is
pub missed-at : {X : Type 0} (p : X → Bool) (xs : List X) → position p xs ≡ None → find p xs ≡ None
missed-at p xs h = missed-by p xs (nat_lt (position_or_len p xs) (length xs)) refl (h)

-- a list has as many images as elements
pub length-kept : {X Y : Type 0} (f : X → Y) (xs : List X) → length (map f xs) ≡ length xs
length-kept f [] = refl
length-kept f (x ∷ xs) = ap suc (length-kept f xs)

-- the image of an element put behind stands behind the images
pub map-push : {X Y : Type 0} (f : X → Y) (xs : List X) (x : X) → map f (xs ++ x ∷ []) ≡ map f xs ++ f x ∷ []
map-push f [] x = refl
map-push f (y ∷ xs) x = ap (λ (ys : List _). f y ∷ ys) (map-push f xs x)

-- what holds in any case holds where there is an error
pub on-err : {T E : Type 0} {P : Type 0} (r : Result T E) → P → OnErr r P
on-err (Ok x) p = tt
on-err (Err e) p = p

-- a list in which an element is set to itself is the same
pub set-same : {X : Type 0} (xs : List X) (i : ℕ) (d : X) → set xs i (get_or xs i d) ≡ xs
set-same [] i d = refl
set-same (x ∷ xs) zero d = refl
set-same (x ∷ xs) (suc i) d = ap (λ (ys : List _). x ∷ ys) (set-same xs i d)

-- an element of a list that has this index
pub element-at : {X : Type 0} (xs : List X) (i : ℕ) → i < length xs → X
element-at [] i within = absurd (omega (arith, within))
element-at (x ∷ xs) i within = x
