-- Lanes that take one step after another.
use Rattle.std.proofs.Common.{◌≡◌, ℕ, zero, suc, ◌+◌, ◌*◌, ◌/◌, ◌^◌, ◌<◌, ◌≤◌, List, [], ◌∷◌, ◌++◌, map, length, take, drop, get_or, refl, sym, ap, ◌∙◌, arith}
use Rattle.std.specs.List.{count_by, flat_map, sum_by}
use Rattle.std.specs.Int.{byte_len}
use Rattle.std.specs.Simd.{first_chunks}
use Rattle.std.proofs.lemmas.Grind.{flat_map-append}
use Rattle.std.proofs.lemmas.List.{append-nil, length-append, length-map, length-take-le, take_all, take_more}
use Rattle.std.proofs.lemmas.List.Sums.{sum_by-append}
use Rattle.std.proofs.Math.Nat.{mul-le-mul_left}
use lib.Lanes.{digits_l, sum_l, Each1}
use mir.Syntax.{Width, w8, w16, w32, w64, w128}
use Rattle.lane_filter.specs.Lanes.{LanesValue, is_within, kept_within, numbers_in, numbers_of, offset, offsets_in, one_within, padded_step, steps_of, with_bytes, with_offsets, with_steps}
use Rattle.lane_filter.proofs.Choosing.{few, kept_at_most, offsets_below, ones_few, sum_map}
use Rattle.lane_filter.proofs.Spelling.{per, some_numbers}

-- offsets behind others
more : (xs ys : List ℕ) (l : LanesValue) → with_offsets ys (with_offsets xs l) ≡ with_offsets (xs ++ ys) l
more xs ys l =
    let count : l.count + count_by (is_within l.span) xs + count_by (is_within l.span) ys ≡ l.count + count_by (is_within l.span) (xs ++ ys) =
    omega (arith, sum_by-append (one_within l.span) xs ys) in
    let offsets : l.offsets + sum_by (kept_within l.span) xs + sum_by (kept_within l.span) ys ≡ l.offsets + sum_by (kept_within l.span) (xs ++ ys) =
    omega (arith, sum_by-append (kept_within l.span) xs ys) in
    λ i. record { from = l.from; span = l.span; count = count i; offsets = offsets i }

-- one step more
with_more : (w : Width) (steps : List (List ℕ)) (step : List ℕ) (l : LanesValue)
    → with_bytes w step (with_steps w steps l) ≡ with_steps w (steps ++ step ∷ []) l
with_more w steps step l =
    let f = offsets_in w l.from in
    more (flat_map f steps) (f step) l
    ∙ ap (λ xs. with_offsets xs l) (ap (λ xs. flat_map f steps ++ xs) (sym (append-nil (f step))) ∙ sym (flat_map-append f steps (step ∷ [])))

pub next : (w : Width) (steps : List (List ℕ)) (i : ℕ) (l t u : LanesValue) → i < length steps → t ≡ with_steps w (take i steps) l
    → u ≡ with_bytes w (get_or steps i []) t → u ≡ with_steps w (take (i + 1) steps) l
next w steps i l t u within e is =
    is ∙ ap (with_bytes w (get_or steps i [])) e ∙ with_more w (take i steps) (get_or steps i []) l
    ∙ ap (λ xs. with_steps w xs l) (sym (take_more steps i [] within))

length_digits : (p n x : ℕ) → length (digits_l p n x) ≡ n
length_digits p zero x = refl
length_digits p (suc n) x = ap suc (length_digits p n (x / p))

length_steps : (w : Width) (from : ℕ) (steps : List (List ℕ)) → length (flat_map (offsets_in w from) steps) ≡ length steps * per w
length_steps w from [] = omega arith
length_steps w from (step ∷ steps) =
    length-append (offsets_in w from step) (flat_map (offsets_in w from) steps)
    ∙ omega (arith, length_steps w from steps, length-map (numbers_in w step) (offset w from), one)
  where
    one : length (numbers_in w step) ≡ per w
    one = length_digits _ (per w) _

counted_few : (w : Width) (steps : List (List ℕ)) (l : LanesValue) → (with_steps w steps l).count ≤ l.count + length steps * per w
counted_few w steps l =
    let xs = flat_map (offsets_in w l.from) steps in
    omega (arith, sum_map (one_within l.span) xs, ones_few l.span xs, length_steps w l.from steps)

steps_few : (w : Width) (i len : ℕ) → i * 32 ≤ len → len ≤ 2 ^ 15 * byte_len w → i * per w ≤ 2 ^ 15
steps_few w8 i len a b = omega arith
steps_few w16 i len a b = omega arith
steps_few w32 i len a b = omega arith
steps_few w64 i len a b = omega arith
steps_few w128 i len a b = omega arith

per_few : (w : Width) → per w ≤ 32
per_few w8 = omega arith
per_few w16 = omega arith
per_few w32 = omega arith
per_few w64 = omega arith
per_few w128 = omega arith

-- so many whole steps leave room
pub room : (w : Width) (values : List ℕ) (steps : List (List ℕ)) (i : ℕ) (l t : LanesValue) → t ≡ with_steps w (take i steps) l → l.count ≡ 0
    → i ≤ length steps → length steps ≡ length values / 32 → length values ≤ 2 ^ 15 * byte_len w → t.count ≤ 2 ^ 15
room w values steps i l t e fresh within long small =
    omega (
      arith,
      ap (λ (v : LanesValue). v.count) e,
      counted_few w (take i steps) l,
      ap (λ (n : ℕ). n * per w) (length-take-le i steps within),
      steps_few w i (length values) (omega arith) small,
    )

-- what stands behind the last step
pub whole : (w : Width) (values : List ℕ) (steps : List (List ℕ)) (i : ℕ) (rest step : List ℕ) (l t u : LanesValue)
    → t ≡ with_steps w (take i steps) l → length steps ≤ i → steps ≡ first_chunks 32 (length values / 32) values
    → rest ≡ drop (length values / 32 * 32) values → step ≡ padded_step rest → u ≡ with_bytes w step t → u ≡ with_steps w (steps_of values) l
whole w values steps i rest step l t u e past are behind is last =
    last ∙ ap (with_bytes w step) e ∙ with_more w (take i steps) step l
    ∙ (λ j. with_steps w (take_all i steps past j ++ (is ∙ ap padded_step behind) j ∷ []) l)
    ∙ ap (λ xs. with_steps w (xs ++ padded_step (drop (length values / 32 * 32) values) ∷ []) l) are

below_steps : (w : Width) (from : ℕ) (steps : List (List ℕ)) → Each1 (λ x. x < numbers_of w) (flat_map (offsets_in w from) steps)
below_steps w from [] = tt
below_steps w from (step ∷ steps) =
    joined (offsets_in w from step) (flat_map (offsets_in w from) steps) (offsets_below w from step (offsets_in w from step) (some_numbers w) refl)
    (below_steps w from steps)
  where
    joined : (xs ys : List ℕ) → Each1 (λ x. x < numbers_of w) xs → Each1 (λ x. x < numbers_of w) ys → Each1 (λ x. x < numbers_of w) (xs ++ ys)
    joined [] ys a b = b
    joined (x ∷ xs) ys a b = (a.0, joined xs ys a.1 b)

-- what is chosen at the end is few, and small
pub end_few : (w : Width) (values : List ℕ) (steps : List (List ℕ)) (i : ℕ) (step : List ℕ) (l t u : LanesValue) → t ≡ with_steps w (take i steps) l
    → l.count ≡ 0 → i ≤ length steps → length steps ≡ length values / 32 → length values ≤ 2 ^ 15 * byte_len w → u ≡ with_bytes w step t
    → u.count < 2 ^ 16
end_few w values steps i step l t u e fresh within long small last =
    let xs = offsets_in w t.from step in
    let lanes : length xs ≡ per w = length-map (numbers_in w step) (offset w t.from) ∙ length_digits _ (per w) _ in
    omega (
      arith,
      ap (λ (v : LanesValue). v.count) last,
      room w values steps i l t e fresh within long small,
      sum_map (one_within t.span) xs,
      ones_few t.span xs,
      lanes,
      per_few w,
    )

pub end_small : (w : Width) (steps : List (List ℕ)) (l u : LanesValue) → u ≡ with_steps w steps l → l.count ≡ 0 → l.offsets ≡ 0 → u.count < 2 ^ 16
    → u.offsets ≤ numbers_of w * 2 ^ 16
end_small w steps l u e fresh none small =
    let xs = flat_map (offsets_in w l.from) steps in
    let m = numbers_of w in
    let kept = few m l.span (kept_within l.span) xs (kept_at_most m l.span xs (below_steps w l.from steps)) in
    let count : u.count ≡ sum_l (map (one_within l.span) xs) =
    omega (arith, ap (λ (v : LanesValue). v.count) e, sum_map (one_within l.span) xs) in
    let most : m * sum_l (map (one_within l.span) xs) ≤ m * 2 ^ 16 = mul-le-mul_left m (omega arith) in
    omega (arith, ap (λ (v : LanesValue). v.offsets) e, sum_map (kept_within l.span) xs)
