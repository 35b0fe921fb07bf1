-- Lists parted by a test that those in front pass and those behind fail.
use Rattle.std.proofs.Common.{◌≡◌, ℕ, ◌+◌, ◌<◌, ◌≤◌, zero, suc, Bool, true, false, cond, not, List, [], ◌∷◌, ◌++◌, take, drop, length, refl, sym, ap, ◌∙◌, arith}
use Rattle.std.specs.List.{list_all, count_by}
use Rattle.std.proofs.lemmas.Bool.{and_parts, and_from, not-true}
use Rattle.std.proofs.lemmas.List.{take-append-drop, take-take}
use Rattle.std.proofs.lemmas.List.Sums.{sum_by-cons, sum_by-append}

-- where one fails the test, all behind it fail
abbrev pub Parted : {X : Type 0} → (X → Bool) → List X → Type 0
Parted p [] = Unit {0}
Parted p (x ∷ xs) = (p x ≡ false → list_all (λ y. not (p y)) xs ≡ true) × Parted p xs

module _ {X : Type 0} (p : X → Bool) where
  -- how many pass with one element more in front
  pub count-cons : (x : X) (xs : List X) → count_by p (x ∷ xs) ≡ cond (p x) 1 0 + count_by p xs
  count-cons x xs = sum_by-cons (λ y. cond (p y) 1 0) x xs

  -- how many pass of two lists in a row
  pub count-append : (xs ys : List X) → count_by p (xs ++ ys) ≡ count_by p xs + count_by p ys
  count-append xs ys = sum_by-append (λ y. cond (p y) 1 0) xs ys

  -- where all fail none is counted
  pub count-none : (xs : List X) → list_all (λ y. not (p y)) xs ≡ true → count_by p xs ≡ 0
  count-none [] h = refl
  count-none (x ∷ xs) h =
      let parts = and_parts (not (p x)) (list_all (λ y. not (p y)) xs) h in
      let is : p x ≡ false = not-true (p x) parts.0 in
      count-cons x xs ∙ rw (is, count-none xs parts.1) refl

  -- As many in front as pass all pass, with one element more in front.
  front-step : (x : X) (xs : List X) (b : Bool) → p x ≡ b → (p x ≡ false → list_all (λ y. not (p y)) xs ≡ true)
      → list_all p (take (count_by p xs) xs) ≡ true → list_all p (take (cond b 1 0 + count_by p xs) (x ∷ xs)) ≡ true
  front-step x xs true is none rest =
      let e : 1 + count_by p xs ≡ suc (count_by p xs) = omega arith in
      rw (e, is) rest
  front-step x xs false is none rest =
      let none_pass = count-none xs (none is) in
      let e : 0 + count_by p xs ≡ 0 = omega (arith, none_pass) in
      rw e refl

  -- as many in front as pass all pass
  pub parted-front : (xs : List X) → Parted p xs → list_all p (take (count_by p xs) xs) ≡ true
  parted-front [] h = refl
  parted-front (x ∷ xs) h = rw (count-cons x xs) (front-step x xs (p x) refl h.0 (parted-front xs h.1))

  -- All behind as many as pass fail, with one element more in front.
  back-step : (x : X) (xs : List X) (b : Bool) → p x ≡ b → (p x ≡ false → list_all (λ y. not (p y)) xs ≡ true)
      → list_all (λ y. not (p y)) (drop (count_by p xs) xs) ≡ true → list_all (λ y. not (p y)) (drop (cond b 1 0 + count_by p xs) (x ∷ xs)) ≡ true
  back-step x xs true is none rest =
      let e : 1 + count_by p xs ≡ suc (count_by p xs) = omega arith in
      rw e rest
  back-step x xs false is none rest =
      let none_pass = count-none xs (none is) in
      let e : 0 + count_by p xs ≡ 0 = omega (arith, none_pass) in
      rw (e, is) (none is)

  -- and all behind these fail
  pub parted-back : (xs : List X) → Parted p xs → list_all (λ y. not (p y)) (drop (count_by p xs) xs) ≡ true
  parted-back [] h = refl
  parted-back (x ∷ xs) h = rw (count-cons x xs) (back-step x xs (p x) refl h.0 (parted-back xs h.1))

  -- where all pass the first of them do
  pub all-take : (n : ℕ) (xs : List X) → list_all p xs ≡ true → list_all p (take n xs) ≡ true
  all-take zero xs h = refl
  all-take (suc n) [] h = refl
  all-take (suc n) (x ∷ xs) h =
      let parts = and_parts (p x) (list_all p xs) h in
      and_from (p x) (list_all p (take n xs)) parts.0 (all-take n xs parts.1)

  -- and the last of them
  pub all-drop : (n : ℕ) (xs : List X) → list_all p xs ≡ true → list_all p (drop n xs) ≡ true
  all-drop zero xs h = h
  all-drop (suc n) [] h = refl
  all-drop (suc n) (x ∷ xs) h = all-drop n xs (and_parts (p x) (list_all p xs) h).1

  -- those of a front, behind some
  pub all-drop-take : (m n : ℕ) (xs : List X) → list_all p (drop m xs) ≡ true → list_all p (drop m (take n xs)) ≡ true
  all-drop-take zero n xs h = all-take n xs h
  all-drop-take (suc m) zero xs h = refl
  all-drop-take (suc m) (suc n) [] h = refl
  all-drop-take (suc m) (suc n) (x ∷ xs) h = all-drop-take m n xs h

  -- how far a front may reach whose elements all pass, where this one fails; and how near a back,
  -- where this one passes
  pub front-reaches : (n : ℕ) (front : List X) (x : X) (rest : List X) → p x ≡ false → list_all p (take n (front ++ x ∷ rest)) ≡ true → n ≤ length front
  front-reaches zero front x rest is h = omega arith
  front-reaches (suc n) [] x rest is h =
      let first : p x ≡ true = (and_parts (p x) (list_all p (take n rest)) h).0 in
      absurd (let never : ⊥ = cc in never)
  front-reaches (suc n) (y ∷ front) x rest is h =
      let rec : n ≤ length front = front-reaches n front x rest is (and_parts (p y) (list_all p (take n (front ++ x ∷ rest))) h).1 in
      omega (arith, rec)

  -- one that passes stands in front of those that all fail
  pub back-reaches : (n : ℕ) (front : List X) (x : X) (rest : List X) → p x ≡ true → list_all (λ y. not (p y)) (drop n (front ++ x ∷ rest)) ≡ true → length front < n
  back-reaches zero [] x rest is h =
      let first : not (p x) ≡ true = (and_parts (not (p x)) (list_all (λ y. not (p y)) rest) h).0 in
      absurd (let e : not true ≡ true = sym (ap not is) ∙ first in let never : ⊥ = cc in never)
  back-reaches zero (y ∷ front) x rest is h =
      let rec : length front < zero = back-reaches zero front x rest is (and_parts (not (p y)) (list_all (λ z. not (p z)) (front ++ x ∷ rest)) h).1 in
      absurd (omega (arith, rec))
  back-reaches (suc n) [] x rest is h = omega arith
  back-reaches (suc n) (y ∷ front) x rest is h =
      let rec : length front < n = back-reaches n front x rest is h in
      omega (arith, rec)

-- what passes a test passes one that it implies
pub all-weaker : {X : Type 0} (p q : X → Bool) → ((x : X) → p x ≡ true → q x ≡ true) → (xs : List X) → list_all p xs ≡ true → list_all q xs ≡ true
all-weaker p q so [] h = refl
all-weaker p q so (x ∷ xs) h =
    let parts = and_parts (p x) (list_all p xs) h in
    and_from (q x) (list_all q xs) (so x parts.0) (all-weaker p q so xs parts.1)

-- two tests that all pass are one that all pass
pub all-both : {X : Type 0} (p q r : X → Bool) → ((x : X) → p x ≡ true → q x ≡ true → r x ≡ true) → (xs : List X) → list_all p xs ≡ true → list_all q xs ≡ true → list_all r xs ≡ true
all-both p q r so [] h k = refl
all-both p q r so (x ∷ xs) h k =
    let parts = and_parts (p x) (list_all p xs) h in
    let others = and_parts (q x) (list_all q xs) k in
    and_from (r x) (list_all r xs) (so x parts.0 others.0) (all-both p q r so xs parts.1 others.1)

-- a list cut at two places
pub cut-between : {X : Type 0} (m n : ℕ) (xs : List X) → m ≤ n → take n xs ≡ take m xs ++ drop m (take n xs)
cut-between m n xs h = sym (take-append-drop m (take n xs)) ∙ ap (λ ys. ys ++ drop m (take n xs)) (take-take m n xs h)

-- what stands from one place on stands between it and another, or from that on
pub drop-between : {X : Type 0} (m n : ℕ) (xs : List X) → m ≤ n → drop m xs ≡ drop m (take n xs) ++ drop n xs
drop-between zero n xs h = sym (take-append-drop n xs)
drop-between (suc m) zero xs h = absurd (omega (arith, h))
drop-between (suc m) (suc n) [] h = refl
drop-between (suc m) (suc n) (x ∷ xs) h = drop-between m n xs (omega (arith, h))

-- a weaker test is passed by as many
weaker-step : {X : Type 0} (p q : X → Bool) (x : X) (xs : List X) (a b : Bool) → p x ≡ a → q x ≡ b → (p x ≡ true → q x ≡ true) → count_by p xs ≤ count_by q xs
    → cond a 1 0 + count_by p xs ≤ cond b 1 0 + count_by q xs
weaker-step p q x xs true true is_a is_b so rest = omega (arith, rest)
weaker-step p q x xs true false is_a is_b so rest = absurd (let e : true ≡ false = sym (so is_a) ∙ is_b in let impossible : ⊥ = cc in impossible)
weaker-step p q x xs false true is_a is_b so rest = omega (arith, rest)
weaker-step p q x xs false false is_a is_b so rest = omega (arith, rest)

-- no more pass a test than one that it implies
pub count-weaker : {X : Type 0} (p q : X → Bool) → ((x : X) → p x ≡ true → q x ≡ true) → (xs : List X) → count_by p xs ≤ count_by q xs
count-weaker p q so [] = omega arith
count-weaker p q so (x ∷ xs) =
    let step = weaker-step p q x xs (p x) (q x) refl refl (so x) (count-weaker p q so xs) in
    rw (count-cons p x xs, count-cons q x xs) step
