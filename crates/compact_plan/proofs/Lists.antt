-- Lists whose elements stand in an order.
use Rattle.std.proofs.Common.{◌≡◌, ℕ, zero, suc, ◌+◌, ◌-◌, ◌<◌, List, [], ◌∷◌, ◌++◌, length, get_or, map, take, sym, ap, ◌∙◌, subst, arith}
use Rattle.std.specs.Prelude.{All, AllPairs, Some, reverse, slice_get}
use Rattle.std.specs.List.{flat_map, zip, range_with_len}
use Rattle.std.proofs.lemmas.List.{append_assoc, get_or-map, get_or-reverse, length-map, length-reverse, map-append, take_more}
use Rattle.std.proofs.lemmas.List.Elements.{All-append, All-cons, All-head, All-map, All-nil, All-tail}
use Rattle.std.proofs.lemmas.List.FromFn.{get_or-range_with_len, length-range_with_len}
use Rattle.std.proofs.lemmas.List.Kept.{AllPairs-cons}
use Rattle.std.proofs.lemmas.Option.{get_or_from_slice_get, slice_get_within}

-- An empty list stands in any order.
AllPairs-nil : {X : Type 0} (R : X → X → Type 0) → AllPairs R []
AllPairs-nil R = λ i j d before within. absurd (omega arith)

-- the first of a list that stands in an order stands so to each behind it
pub AllPairs-head : {X : Type 0} (R : X → X → Type 0) (x : X) (xs : List X) → AllPairs R (x ∷ xs) → All (R x) xs
AllPairs-head R x xs pairs = λ k d within. pairs zero (suc k) d (omega arith) (omega arith)

-- without its first a list stands in its order still
pub AllPairs-tail : {X : Type 0} (R : X → X → Type 0) (x : X) (xs : List X) → AllPairs R (x ∷ xs) → AllPairs R xs
AllPairs-tail R x xs pairs = λ i j d before within. pairs (suc i) (suc j) d (omega arith) (omega arith)

-- images stand in an order where their elements do by it
pub AllPairs-map : {X Y : Type 0} (R : Y → Y → Type 0) (f : X → Y) (xs : List X) →
    AllPairs (λ x y. R (f x) (f y)) xs → AllPairs R (map f xs)
AllPairs-map R f [] pairs = AllPairs-nil R
AllPairs-map R f (x ∷ xs) pairs =
    AllPairs-cons
    R
    (f x)
    (map f xs)
    (All-map (R (f x)) f xs (AllPairs-head (λ y z. R (f y) (f z)) x xs pairs))
    (AllPairs-map R f xs (AllPairs-tail (λ y z. R (f y) (f z)) x xs pairs))

-- what holds of all images holds of each element by its image
pub All-from_map : {X Y : Type 0} (P : Y → Type 0) (f : X → Y) (xs : List X) → All P (map f xs) → All (λ x. P (f x)) xs
All-from_map P f xs all = λ k d within.
    let long : length (map f xs) ≡ length xs = length-map xs f in
    subst P (get_or-map f xs k d (f d) within) (all k (f d) (omega (arith, long, within)))

-- elements stand in an order by their images where these do
pub AllPairs-from_map : {X Y : Type 0} (R : Y → Y → Type 0) (f : X → Y) (xs : List X) →
    AllPairs R (map f xs) → AllPairs (λ x y. R (f x) (f y)) xs
AllPairs-from_map R f [] pairs = AllPairs-nil (λ x y. R (f x) (f y))
AllPairs-from_map R f (x ∷ xs) pairs =
    AllPairs-cons
    (λ y z. R (f y) (f z))
    x
    xs
    (All-from_map (R (f x)) f xs (AllPairs-head R (f x) (map f xs) pairs))
    (AllPairs-from_map R f xs (AllPairs-tail R (f x) (map f xs) pairs))

-- Two lists in an order join to one where each of the first stands before each of the second.
AllPairs-append : {X : Type 0} (R : X → X → Type 0) (xs ys : List X) →
    AllPairs R xs → AllPairs R ys → All (λ x. All (R x) ys) xs → AllPairs R (xs ++ ys)
AllPairs-append R [] ys front back across = back
AllPairs-append R (x ∷ xs) ys front back across =
    AllPairs-cons
    R
    x
    (xs ++ ys)
    (All-append (R x) xs ys (AllPairs-head R x xs front) (All-head (λ y. All (R y) ys) x xs across))
    (AllPairs-append R xs ys (AllPairs-tail R x xs front) back (All-tail (λ y. All (R y) ys) x xs across))

-- a list turned round
pub AllPairs-reverse : {X : Type 0} (R : X → X → Type 0) (xs : List X) → AllPairs R xs → AllPairs (λ x y. R y x) (reverse xs)
AllPairs-reverse {X} R xs pairs = λ i j d before within.
    let long : length (reverse xs) ≡ length xs = length-reverse xs in
    let inside : j < length xs = omega (arith, long, within) in
    let early : i < length xs = omega (arith, before, inside) in
    subst
    (λ (y : X). R y (get_or (reverse xs) i d))
    (sym (get_or-reverse xs j d inside))
    (subst
    (λ (x : X). R (get_or xs (length xs - 1 - j) d) x)
    (sym (get_or-reverse xs i d early))
    (pairs (length xs - 1 - j) (length xs - 1 - i) d (omega (arith, before, inside)) (omega (arith, early))))

-- what holds of all of a list holds of all when it is turned around
pub All-reverse : {X : Type 0} (P : X → Type 0) (xs : List X) → All P xs → All P (reverse xs)
All-reverse P xs all = λ k d within.
    let long : length (reverse xs) ≡ length xs = length-reverse xs in
    let inside : k < length xs = omega (arith, long, within) in
    subst P (sym (get_or-reverse xs k d inside)) (all (length xs - 1 - k) d (omega (arith, inside)))

-- what holds of all of each list holds of all of the joined lists
pub All-flat_map : {X Y : Type 0} (P : Y → Type 0) (f : X → List Y) (xs : List X) → All (λ x. All P (f x)) xs → All P (flat_map f xs)
All-flat_map P f [] all = All-nil P
All-flat_map P f (x ∷ xs) all =
    All-append P (f x) (flat_map f xs) (All-head (λ y. All P (f y)) x xs all) (All-flat_map P f xs (All-tail (λ y. All P (f y)) x xs all))

-- each element of one piece stands before each of another
abbrev pub Before : {X Y : Type 0} → (Y → Y → Type 0) → (X → List Y) → X → X → Type 0
Before R f x z = All (λ a. All (R a) (f z)) (f x)

-- Pieces in order, of which each stands before the later ones, make a list in order.
pub AllPairs-flat_map : {X Y : Type 0} (R : Y → Y → Type 0) (f : X → List Y) (xs : List X) →
    All (λ x. AllPairs R (f x)) xs → AllPairs (Before R f) xs → AllPairs R (flat_map f xs)
AllPairs-flat_map R f [] each across = AllPairs-nil R
AllPairs-flat_map R f (x ∷ xs) each across =
    AllPairs-append
    R
    (f x)
    (flat_map f xs)
    (All-head (λ y. AllPairs R (f y)) x xs each)
    (AllPairs-flat_map R f xs (All-tail (λ y. AllPairs R (f y)) x xs each) (AllPairs-tail (Before R f) x xs across))
    (λ k a within. All-flat_map (R (get_or (f x) k a)) f xs (λ j z inside. AllPairs-head (Before R f) x xs across j z inside k a within))

-- what holds of both halves of a pair
abbrev pub Both : {X Y : Type 0} → (X → Type 0) → (Y → Type 0) → X × Y → Type 0
Both P Q pair = P pair.0 × Q pair.1

-- what holds of all of each of two lists holds of their pairs
pub All-zip : {X Y : Type 0} (P : X → Type 0) (Q : Y → Type 0) (xs : List X) (ys : List Y) →
    All P xs → All Q ys → All (Both P Q) (zip xs ys)
All-zip P Q [] ys first second = All-nil (Both P Q)
All-zip P Q (x ∷ xs) [] first second = All-nil (Both P Q)
All-zip P Q (x ∷ xs) (y ∷ ys) first second =
    All-cons
    (Both P Q)
    (x, y)
    (zip xs ys)
    (All-head P x xs first, All-head Q y ys second)
    (All-zip P Q xs ys (All-tail P x xs first) (All-tail Q y ys second))

-- the numbers from 0 on rise
pub range_rises : (n : ℕ) → AllPairs (λ one other. one < other) (range_with_len 0 n)
range_rises n = λ i j d before within.
    let inside : j < n = omega (arith, length-range_with_len 0 n, within) in
    let one = get_or-range_with_len 0 n i d (omega (arith, before, inside)) in
    let other = get_or-range_with_len 0 n j d inside in
    omega (arith, before, one, other)

-- the numbers from 0 on are below their count
pub range_within : (n : ℕ) → All (λ k. k < n) (range_with_len 0 n)
range_within n = λ k d within.
    let inside : k < n = omega (arith, length-range_with_len 0 n, within) in
    let is = get_or-range_with_len 0 n k d inside in
    omega (arith, inside, is)

-- one more element, and what it gives
pub map_more : {X Y : Type 0} (f : X → Y) (front : List Y) (xs : List X) (i : ℕ) (x : X) → slice_get xs i ≡ Some x →
    front ++ map f (take i xs) ++ f x ∷ [] ≡ front ++ map f (take (i + 1) xs)
map_more {X} {Y} f front xs i x is =
    append_assoc front (map f (take i xs)) (f x ∷ [])
    ∙ ap (λ (ys : List Y). front ++ ys) (sym (ap (map f) taken ∙ map-append f (take i xs) (x ∷ [])))
  where
    taken : take (i + 1) xs ≡ take i xs ++ x ∷ []
    taken = take_more xs i x (slice_get_within xs i x is) ∙ ap (λ (y : X). take i xs ++ y ∷ []) (get_or_from_slice_get xs i x x is)
