-- The value between two offsets, whichever they are.
use Rattle.std.proofs.Common.{◌≡◌, ℕ, ◌-◌, ◌≤◌, List, [], length, take, drop, min, sym, ap, ◌∙◌, arith, inl, inr, length-drop}
use Rattle.std.proofs.lemmas.Bool.{cases_lt}
use Rattle.std.proofs.lemmas.List.{drop_all, take_all}

-- nothing is taken of nothing
take_nil : (n : ℕ) → take {A = ℕ} n [] ≡ []
take_nil n = take_all n [] (omega arith)

-- ends that are cut off at the length take the same
pub cut_value : (values : List ℕ) (start end from to : ℕ) → to ≡ min end (length values) → from ≡ min start to
    → take (to - from) (drop from values) ≡ take (end - start) (drop start values)
cut_value values start end from to to_is from_is =
    elim (cases_lt start end) [
      | inr falls ↦
          let none : to - from ≡ 0 = omega (arith, to_is, from_is) in
          let neither : 0 ≡ end - start = omega arith in
          ap (λ (n : ℕ). take n (drop from values)) none ∙ ap (λ (n : ℕ). take n (drop start values)) neither
      | inl rises ↦ elim (cases_lt start (length values)) [
        | inr past ↦
            let same : to - from ≡ 0 = omega (arith, to_is, from_is) in
            ap (λ (n : ℕ). take n (drop from values)) same ∙ (sym (take_nil (end - start)) ∙ sym (ap (take (end - start)) (drop_all start values past)))
        | inl before ↦
            let first : from ≡ start = omega (arith, to_is, from_is) in
            ap (λ (n : ℕ). take (to - n) (drop n values)) first ∙ elim (cases_lt (length values) end) [
              | inl more ↦
                  let left : length (drop start values) ≡ length values - start = length-drop start values in
                  let whole : length (drop start values) ≤ to - start = omega (arith, to_is, left) in
                  let beyond : length (drop start values) ≤ end - start = omega (arith, left) in
                  take_all (to - start) (drop start values) whole ∙ sym (take_all (end - start) (drop start values) beyond)
              | inr fits ↦
                  let last : to ≡ end = omega (arith, to_is) in
                  ap (λ (n : ℕ). take (n - start) (drop start values)) last
            ]
      ]
    ]
