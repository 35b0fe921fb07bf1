-- A partition is counted near a place: all in front of a part pass, and all behind it fail.
use Rattle.std.proofs.Common.{◌≡◌, ℕ, ◌+◌, ◌<◌, ◌≤◌, zero, suc, Bool, true, false, not, List, [], ◌∷◌, take, drop, length, get_or, refl, sym, ap, ◌∙◌, arith}
use Rattle.std.specs.List.{list_all, count_by}
use Rattle.std.proofs.lemmas.Bool.{and_parts, and_from}
use Rattle.std.proofs.lemmas.List.{take-append-drop, length-take-le}
use Rattle.order_laws.proofs.Pieces.{Parted, all-take, count-append, count-cons, count-none, cut-between}
use Rattle.outcome_counts.proofs.Parts.{first-passes}

module _ {X : Type 0} (p : X → Bool) where
  -- where all pass, as many are counted as there are
  pub count-all : (xs : List X) → list_all p xs ≡ true → count_by p xs ≡ length xs
  count-all [] h = refl
  count-all (x ∷ xs) h =
      let parts = and_parts (p x) (list_all p xs) h in
      let e : 1 + length xs ≡ suc (length xs) = omega arith in
      count-cons p x xs ∙ rw (parts.0, count-all xs parts.1) e

  -- those that pass are counted within the part
  pub count-near : (from to : ℕ) (xs : List X) → from ≤ to → to ≤ length xs → list_all p (take from xs) ≡ true → list_all (λ y. not (p y)) (drop to xs) ≡ true
      → count_by p xs ≡ from + count_by p (drop from (take to xs))
  count-near from to xs order within front back =
      let part : List X = drop from (take to xs) in
      let all : count_by p (take from xs) ≡ from = count-all (take from xs) front ∙ length-take-le from xs (omega (arith, order, within)) in
      let none : count_by p (drop to xs) ≡ 0 = count-none p (drop to xs) back in
      let whole : count_by p xs ≡ count_by p (take to xs) + count_by p (drop to xs) = ap (count_by p) (sym (take-append-drop to xs)) ∙ count-append p (take to xs) (drop to xs) in
      let cut : count_by p (take to xs) ≡ count_by p (take from xs) + count_by p part = ap (count_by p) (cut-between from to xs order) ∙ count-append p (take from xs) part in
      omega (arith, all, none, whole, cut)

  -- a part of a list that is parted is too
  parted-take : (n : ℕ) (xs : List X) → Parted p xs → Parted p (take n xs)
  parted-take zero xs h = tt
  parted-take (suc n) [] h = tt
  parted-take (suc n) (x ∷ xs) h = (λ fails. all-take (λ y. not (p y)) n xs (h.0 fails), parted-take n xs h.1)

  -- What is left of a parted list behind its first elements is parted.
  parted-drop : (n : ℕ) (xs : List X) → Parted p xs → Parted p (drop n xs)
  parted-drop zero xs h = h
  parted-drop (suc n) [] h = tt
  parted-drop (suc n) (x ∷ xs) h = parted-drop n xs h.1

  -- a part of a list that is parted is parted
  pub parted-near : (from to : ℕ) (xs : List X) → Parted p xs → Parted p (drop from (take to xs))
  parted-near from to xs h = parted-drop from (take to xs) (parted-take to xs h)

  -- where one passes, all up to it do; where one fails, all from it on do
  pub front-passes : (xs : List X) (i : ℕ) (d : X) → Parted p xs → i < length xs → p (get_or xs i d) ≡ true → list_all p (take (suc i) xs) ≡ true
  front-passes [] i d h within is = absurd (omega (arith, within))
  front-passes (x ∷ xs) zero d h within is = and_from (p x) true is refl
  front-passes (x ∷ xs) (suc i) d h within is =
      and_from (p x) (list_all p (take (suc i) xs)) (first-passes p x xs i d (p x) refl h.0 (omega (arith, within)) is) (front-passes xs i d h.1 (omega (arith, within)) is)

  -- where one of a parted list fails, all from it on do
  pub back-fails : (xs : List X) (i : ℕ) (d : X) → Parted p xs → i < length xs → p (get_or xs i d) ≡ false → list_all (λ y. not (p y)) (drop i xs) ≡ true
  back-fails [] i d h within is = absurd (omega (arith, within))
  back-fails (x ∷ xs) zero d h within is = and_from (not (p x)) (list_all (λ y. not (p y)) xs) (ap not is) (h.0 is)
  back-fails (x ∷ xs) (suc i) d h within is = back-fails xs i d h.1 (omega (arith, within)) is
