-- What stands in front of a partition point.
use Rattle.std.proofs.Common.{◌≡◌, ℕ, ◌-◌, ◌<◌, ◌≤◌, zero, suc, Bool, true, false, List, [], ◌∷◌, length, take, get_or, None, Some, refl, sym, ap, ◌∙◌, arith}
use Rattle.std.specs.List.{filter, last_or, slice_get, count_by}
use Rattle.std.specs.List.Sorted.{IsPartitionPoint}
use Rattle.std.proofs.lemmas.List.{length-take-le}
use Rattle.std.proofs.lemmas.List.Sums.{length-filter}

-- Where the element at each place fails the test, none is kept.
filter-none : {X : Type 0} (p : X → Bool) (xs : List X) (d : X) → ((k : ℕ) → k < length xs → p (get_or xs k d) ≡ false) → filter p xs ≡ []
filter-none p [] d h = refl
filter-none p (x ∷ xs) d h =
    let none : p x ≡ false = h zero (omega arith) in
    rw none (filter-none p xs d (λ k within. h (suc k) (omega (arith, within))))

-- Where those in front of a place pass and the others fail, those in front are kept.
filter-take : {X : Type 0} (p : X → Bool) (xs : List X) (i : ℕ) (d : X) → i ≤ length xs
    → ((k : ℕ) → k < i → p (get_or xs k d) ≡ true) → ((k : ℕ) → i ≤ k → k < length xs → p (get_or xs k d) ≡ false) → filter p xs ≡ take i xs
filter-take p xs zero d within pass fail = filter-none p xs d (λ k below. fail k (omega arith) below)
filter-take p [] (suc i) d within pass fail = absurd (omega (arith, within))
filter-take p (x ∷ xs) (suc i) d within pass fail =
    let first : p x ≡ true = pass zero (omega arith) in
    rw first (ap (λ (ys : List _). x ∷ ys)
    (filter-take p xs i d (omega (arith, within)) (λ k below. pass (suc k) (omega (arith, below)))
    (λ k from below. fail (suc k) (omega (arith, from)) (omega (arith, below)))))

-- the elements that pass are those in front of the partition point
pub passed-front : {X : Type 0} (p : X → Bool) (xs : List X) (i : ℕ) → i ≤ length xs → IsPartitionPoint (λ x. p x ≡ true) (λ x. p x ≡ false) xs i → filter p xs ≡ take i xs
passed-front p [] zero within point = refl
passed-front p [] (suc i) within point = absurd (omega (arith, within))
passed-front p (x ∷ xs) i within point = filter-take p (x ∷ xs) i x within (λ k below. point.0 k x (omega arith) below) (λ k from below. point.1 k x from below)

-- as many pass as stand in front of the partition point
pub passed-count : {X : Type 0} (p : X → Bool) (xs : List X) (i : ℕ) → i ≤ length xs → IsPartitionPoint (λ x. p x ≡ true) (λ x. p x ≡ false) xs i → i ≡ count_by p xs
passed-count p xs i within point = sym (length-take-le i xs within) ∙ ap length (sym (passed-front p xs i within point)) ∙ length-filter p xs

-- As far behind a first element as there are others stands the last.
last-onto : {X : Type 0} (x : X) (xs : List X) → slice_get (x ∷ xs) (length xs) ≡ last_or (Some x) xs
last-onto x [] = refl
last-onto x (y ∷ ys) = last-onto y ys

-- the element at the last index is the last
pub last-get : {X : Type 0} (xs : List X) → slice_get xs (length xs - 1) ≡ last_or None xs
last-get [] = refl
last-get (x ∷ xs) =
    let e : suc (length xs) - 1 ≡ length xs = omega arith in
    ap (slice_get (x ∷ xs)) e ∙ last-onto x xs
