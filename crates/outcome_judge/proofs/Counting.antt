-- Numbers among those that are kept, by counts.
use Rattle.std.proofs.Common.{◌≡◌, ℕ, ◌+◌, ◌<◌, ◌≤◌, Bool, true, false, cond, ◌&&◌, ◌||◌, not, eqb, nat_lt, nat_le, List, [], ◌∷◌, refl, sym, ap, ◌∙◌, arith, ◌⊎◌, inl, inr}
use Rattle.std.specs.List.{filter, list_all}
use Rattle.std.proofs.lemmas.Bool.{and_from, cases_lt}
use Rattle.std.proofs.lemmas.Bool.Decides.{nat_tests}
use Rattle.order_laws.proofs.Pieces.{count-cons, count-weaker}
use Rattle.mark_index.specs.Marks.{count_below}
use Rattle.outcome_judge.specs.Writers.{count_up_to, is_number_in}

-- ---- one is there where more are up to it than below it

-- No more numbers are below a number than up to it.
below-up : (number : ℕ) (xs : List ℕ) → count_below number xs ≤ count_up_to number xs
below-up number xs = count-weaker (λ x. nat_lt x number) (λ x. nat_le x number) (λ x h. grind (arith, nat_tests, h)) xs

-- a number is among them exactly where more are up to it than below it
pub number-found : (number : ℕ) (xs : List ℕ) → nat_lt (count_below number xs) (count_up_to number xs) ≡ is_number_in xs number
number-found number [] = grind (arith, nat_tests)
number-found number (x ∷ xs) =
    ap (λ (n : ℕ). nat_lt n (count_up_to number (x ∷ xs))) (count-cons (λ y. nat_lt y number) x xs)
    ∙ ap (nat_lt (cond (nat_lt x number) 1 0 + count_below number xs)) (count-cons (λ y. nat_le y number) x xs)
    ∙ step x number (count_below number xs) (count_up_to number xs) (below-up number xs)
    ∙ ap (λ (b : Bool). eqb x number || b) (number-found number xs)
  where
    by : (below up same : Bool) (low high : ℕ) → low ≤ high → (below ≡ true → up ≡ true) → (same ≡ true → (below ≡ false) × (up ≡ true)) → (same ≡ false → below ≡ up)
        → nat_lt (cond below 1 0 + low) (cond up 1 0 + high) ≡ (same || nat_lt low high)
    by true true true low high h so is other = absurd (let e = (is refl).0 in let never : ⊥ = cc in never)
    by true true false low high h so is other = grind (arith, nat_tests)
    by true false same low high h so is other = absurd (let e = so refl in let never : ⊥ = cc in never)
    by false true true low high h so is other = grind (arith, nat_tests, h)
    by false true false low high h so is other = absurd (let e = other refl in let never : ⊥ = cc in never)
    by false false true low high h so is other = absurd (let e = (is refl).1 in let never : ⊥ = cc in never)
    by false false false low high h so is other = grind (arith, nat_tests)

    step : (x number low high : ℕ) → low ≤ high → nat_lt (cond (nat_lt x number) 1 0 + low) (cond (nat_le x number) 1 0 + high) ≡ (eqb x number || nat_lt low high)
    step x number low high h = by (nat_lt x number) (nat_le x number) (eqb x number) low high h (λ k. grind (arith, nat_tests, k)) (λ k. (grind (arith, nat_tests, k), grind (arith, nat_tests, k))) (λ k. grind (arith, nat_tests, k))

-- ---- those above a bound

-- all that a filter keeps pass exactly where each passes or is not kept
pub all-filter : {X : Type 0} (p q : X → Bool) (xs : List X) → list_all p (filter q xs) ≡ list_all (λ x. not (q x) || p x) xs
all-filter p q [] = refl
all-filter p q (x ∷ xs) = by (q x) refl (all-filter p q xs)
  where
    by : (b : Bool) → q x ≡ b → list_all p (filter q xs) ≡ list_all (λ y. not (q y) || p y) xs → list_all p (filter q (x ∷ xs)) ≡ ((not b || p x) && list_all (λ y. not (q y) || p y) xs)
    by true is rest = rw is (ap (λ (b : Bool). p x && b) rest)
    by false is rest = rw is rest

-- Where each element passes, all of a list do.
all-true : {X : Type 0} (p : X → Bool) → ((x : X) → p x ≡ true) → (xs : List X) → list_all p xs ≡ true
all-true p is [] = refl
all-true p is (x ∷ xs) = and_from (p x) (list_all p xs) (is x) (all-true p is xs)

-- ---- none is above a bound and below another where no more are below the one than up to the other

-- The number is not above the low bound, or it is no less than the high one.
abbrev kept : ℕ → ℕ → ℕ → Bool
kept low high x = not (nat_lt low x) || nat_le high x

-- No more are below the high bound than up to the low one exactly where each is kept.
none-above : (low high : ℕ) → low < high → (xs : List ℕ) → nat_le (count_below high xs) (count_up_to low xs) ≡ list_all (kept low high) xs
none-above low high h [] = refl
none-above low high h (x ∷ xs) =
    ap (λ (n : ℕ). nat_le n (count_up_to low (x ∷ xs))) (count-cons (λ y. nat_lt y high) x xs)
    ∙ ap (nat_le (cond (nat_lt x high) 1 0 + count_below high xs)) (count-cons (λ y. nat_le y low) x xs)
    ∙ by (nat_lt x high) (nat_le x low) (count_below high xs) (count_up_to low xs) (count-weaker (λ y. nat_le y low) (λ y. nat_lt y high) (λ y k. grind (arith, nat_tests, h, k)) xs) (λ k. grind (arith, nat_tests, h, k))
    ∙ ap (λ (b : Bool). b && nat_le (count_below high xs) (count_up_to low xs)) (sym (its x))
    ∙ ap (λ (b : Bool). kept low high x && b) (none-above low high h xs)
  where
    its : (x : ℕ) → kept low high x ≡ (nat_le x low || not (nat_lt x high))
    its x = grind (arith, nat_tests)

    by : (below up : Bool) (cb cu : ℕ) → cu ≤ cb → (up ≡ true → below ≡ true) → nat_le (cond below 1 0 + cb) (cond up 1 0 + cu) ≡ ((up || not below) && nat_le cb cu)
    by true true cb cu k so = grind (arith, nat_tests)
    by true false cb cu k so = grind (arith, nat_tests, k)
    by false true cb cu k so = absurd (let e = so refl in let never : ⊥ = cc in never)
    by false false cb cu k so = grind (arith, nat_tests)

-- none is above a bound and below another exactly where the counts say so
pub none-between : (low high : ℕ) (xs : List ℕ) → nat_le (count_below high xs) (count_up_to low xs) ≡ list_all (nat_le high) (filter (nat_lt low) xs)
none-between low high xs = by (cases_lt low high) ∙ sym (all-filter (nat_le high) (nat_lt low) xs)
  where
    by : (low < high) ⊎ (high ≤ low) → nat_le (count_below high xs) (count_up_to low xs) ≡ list_all (kept low high) xs
    by (inl h) = none-above low high h xs
    by (inr h) =
        let low_count = count-weaker (λ y. nat_lt y high) (λ y. nat_le y low) (λ y k. grind (arith, nat_tests, h, k)) xs in
        let l : nat_le (count_below high xs) (count_up_to low xs) ≡ true = grind (arith, nat_tests, low_count) in
        l ∙ sym (all-true (kept low high) (λ x. grind (arith, nat_tests, h)) xs)
