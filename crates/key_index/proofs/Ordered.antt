-- Places in ascending order, when one is added or dropped.
use Rattle.std.proofs.Common.{◌≡◌, ℕ, zero, suc, ◌+◌, ◌==◌, ◌<◌, ◌≤◌, Bool, true, false, cond, List, [], ◌∷◌, ◌++◌, length, get_or, insert, remove, nat_lt, refl, sym, ap, ◌∙◌, arith}
use Rattle.std.specs.Prelude.{count_by, sum_by}
use Rattle.std.specs.List.Sorted.{IsNonDecreasing, IsPartitionPoint}
use Rattle.std.proofs.lemmas.Bool.Decides.{nat_tests}
use Rattle.std.proofs.lemmas.List.Edits.{get_or-remove_above, get_or-remove_below, length-remove}
use Rattle.std.proofs.lemmas.List.Sorted.{IsNonDecreasingBy-insert}
use Rattle.std.proofs.lemmas.List.Sums.{sum_by-append, sum_by-cons, sum_by-insert, sum_by-remove}
use Rattle.key_index.specs.Candidates.{IsInOrder}

-- where the places from one on are no lower than it
abbrev pub IsFirstFrom : List ℕ → ℕ → ℕ → Type 0
IsFirstFrom places place at = IsPartitionPoint (λ other. other < place) (λ other. place ≤ other) places at

below : (a b : ℕ) → nat_lt a b ≡ true → a < b
below a b e = grind (arith, nat_tests)

above : (a b : ℕ) → nat_lt a b ≡ false → b ≤ a
above a b e = grind (arith, nat_tests)

-- what a search by a test of the order finds
pub first_from : (places : List ℕ) (place at : ℕ) → IsPartitionPoint (λ other. nat_lt other place ≡ true) (λ other. nat_lt other place ≡ false) places at → IsFirstFrom places place at
first_from places place at point =
    (λ k d low less. below (get_or places k d) place (point.0 k d low less), λ k d low less. above (get_or places k d) place (point.1 k d low less))

-- how often a place counts in a test
abbrev weight : (ℕ → Bool) → ℕ → ℕ
weight test place = cond (test place) 1 0

-- one place counts for itself
alone : (f : ℕ → ℕ) (place : ℕ) → sum_by f (place ∷ []) ≡ f place
alone f place = omega (arith, sum_by-cons f place [])

-- a place that is added behind the others, and before those that are no lower
pub added_in_order : (added ascending : List ℕ) (at place : ℕ) → IsInOrder added ascending → at ≤ length ascending → IsFirstFrom ascending place at
    → IsInOrder (added ++ place ∷ []) (insert ascending at place)
added_in_order added ascending at place old within point = record {
  same = λ test.
      let a = sum_by-insert (weight test) ascending at place in
      let b = sum_by-append (weight test) added (place ∷ []) in
      let c = alone (weight test) place in
      let s = old.same test in
      omega (arith, a, b, c, s);
  rises = IsNonDecreasingBy-insert (λ x. x) ascending at place old.rises within
      (λ k d less. let l = point.0 k d (omega arith) less in omega (arith, l)) (λ k d low less. point.1 k d low less);
}

-- Where a test counts some place, one passes it.
counted_there : (test : ℕ → Bool) (places : List ℕ) → 0 < count_by test places → (k : ℕ) × (k < length places) × (test (get_or places k 0) ≡ true)
counted_there test [] some = absurd (omega (arith, some))
counted_there test (p ∷ ps) some = go (counted_there test ps) (test p) refl
  where
    go : (0 < count_by test ps → (k : ℕ) × (k < length ps) × (test (get_or ps k 0) ≡ true)) → (b : Bool) → test p ≡ b
        → (k : ℕ) × (k < length (p ∷ ps)) × (test (get_or (p ∷ ps) k 0) ≡ true)
    go behind true e = (0, omega arith, e)
    go behind false e =
        let c = sum_by-cons (weight test) p ps in
        let z : weight test p ≡ 0 = ap (λ b. cond b 1 0) e in
        let rest = behind (omega (arith, some, c, z)) in
        let l = rest.1 in
        (suc rest.0, omega (arith, l), rest.2)

same_place : (a b : ℕ) → (a == b) ≡ true → a ≡ b
same_place a b e = grind (arith, nat_tests)

itself : (a : ℕ) → (a == a) ≡ true
itself a = grind (arith, nat_tests)

-- a place that is there stands where the search finds it
pub found_in_order : (added ascending : List ℕ) (i at place : ℕ) → IsInOrder added ascending → i < length added → (get_or added i 0 == place) ≡ true
    → IsFirstFrom ascending place at → (at < length ascending) × (get_or ascending at 0 ≡ place)
found_in_order added ascending i at place old within is point =
    let test : ℕ → Bool = λ other. other == place in
    let r = sum_by-remove (weight test) added i 0 within in
    let one : weight test (get_or added i 0) ≡ 1 = ap (λ b. cond b 1 0) is in
    let s = old.same test in
    let there = counted_there test ascending (omega (arith, r, one, s)) in
    let same = same_place (get_or ascending there.0 0) place there.2 in
    let here = there.1 in
    let low : at ≤ there.0 = not_before there.0 here same (nat_lt there.0 at) refl in
    let up = old.rises at there.0 0 low here in
    let down = point.1 at 0 (omega arith) (omega (arith, low, here)) in
    (omega (arith, low, here), omega (arith, up, down, same))
  where
    not_before : (k : ℕ) → k < length ascending → get_or ascending k 0 ≡ place → (b : Bool) → nat_lt k at ≡ b → at ≤ k
    not_before k less same true e = let l = point.0 k 0 (omega arith) (below k at e) in absurd (omega (arith, l, same))
    not_before k less same false e = above k at e

-- ascending places without one of them ascend
rises_without : (xs : List ℕ) (i : ℕ) → IsNonDecreasing xs → i < length xs → IsNonDecreasing (remove xs i)
rises_without xs i rises within j k d le less = go (nat_lt j i) refl (nat_lt k i) refl
  where
    go : (b : Bool) → nat_lt j i ≡ b → (c : Bool) → nat_lt k i ≡ c → get_or (remove xs i) j d ≤ get_or (remove xs i) k d
    go true e true f =
        let a = get_or-remove_below xs i d j (below j i e) within in
        let b = get_or-remove_below xs i d k (below k i f) within in
        let n = length-remove xs i within in
        let r = rises j k d le (omega (arith, n, less)) in omega (arith, a, b, r)
    go true e false f =
        let a = get_or-remove_below xs i d j (below j i e) within in
        let b = get_or-remove_above xs i d k (above k i f) within in
        let n = length-remove xs i within in
        let r = rises j (k + 1) d (omega (arith, le)) (omega (arith, n, less)) in omega (arith, a, b, r)
    go false e true f = absurd (let x = above j i e in let y = below k i f in omega (arith, x, y, le))
    go false e false f =
        let a = get_or-remove_above xs i d j (above j i e) within in
        let b = get_or-remove_above xs i d k (above k i f) within in
        let n = length-remove xs i within in
        let r = rises (j + 1) (k + 1) d (omega (arith, le)) (omega (arith, n, less)) in omega (arith, a, b, r)

-- one place less in both lists
pub dropped_in_order : (added ascending : List ℕ) (i at place : ℕ) → IsInOrder added ascending → i < length added → (get_or added i 0 == place) ≡ true
    → at < length ascending → get_or ascending at 0 ≡ place → IsInOrder (remove added i) (remove ascending at)
dropped_in_order added ascending i at place old within is there here = record {
  same = λ test.
      let a = sum_by-remove (weight test) added i 0 within in
      let b = sum_by-remove (weight test) ascending at 0 there in
      let e : get_or added i 0 ≡ get_or ascending at 0 = same_place (get_or added i 0) place is ∙ sym here in
      let w = ap (weight test) e in
      let s = old.same test in
      omega (arith, a, b, w, s);
  rises = rises_without ascending at old.rises there;
}

-- one place alone
pub one_in_order : (place : ℕ) → IsInOrder (place ∷ []) (place ∷ [])
one_in_order place = record { same = λ test. refl; rises = λ j k d le less. level j k d le less }
  where
    level : (j k d : ℕ) → j ≤ k → k < 1 → get_or (place ∷ []) j d ≤ get_or (place ∷ []) k d
    level zero zero d le less = omega arith
    level zero (suc k) d le less = absurd (omega (arith, less))
    level (suc j) zero d le less = absurd (omega (arith, le))
    level (suc j) (suc k) d le less = absurd (omega (arith, less))

-- no place
pub none_in_order : IsInOrder [] []
none_in_order = record { same = λ test. refl; rises = λ j k d le less. absurd (omega (arith, less)) }
