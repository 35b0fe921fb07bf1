-- How far numbers lie above a low end, and which lie between two.
use Rattle.std.proofs.Common.{◌≡◌, ℕ, suc, ◌+◌, ◌-◌, ◌*◌, ◌%◌, ◌^◌, ◌<◌, ◌≤◌, ◌⊎◌, inl, inr, Bool, true, false, cond, ℤ, pos, negsuc, ◌+ℤ◌, ◌*ℤ◌, ◌≤ℤ◌, List, [], ◌∷◌, map, refl, sym, ap, subst, ◌∙◌, arith, zero-add}
use Rattle.std.proofs.lemmas.Int.{ints}
use Rattle.std.proofs.lemmas.Bool.{cases_lt}
use Rattle.std.proofs.lemmas.Bool.Decides.{same_from_decides, leb_tells}
use Rattle.std.proofs.lemmas.List.Sums.{sum_by-cons}
use Rattle.std.proofs.Math.Nat.{add-mul-mod_self_left, mod-eq_of_lt}
use Rattle.std.specs.Bool.{Decides}
use Rattle.std.specs.Int.{cast_unsigned}
use Rattle.std.specs.List.{count_by, filter, fold, sum_by}
use lib.Lanes.{Each1}
use mir.Syntax.{Width, w8, w16, w32, w64, w128}
use mir.Val.{bits}
use Rattle.cell_model.specs.Values.{is_between}
use Rattle.cell_model.specs.Widths.{number_width}
use Rattle.lane_filter.specs.declared.interval.Interval.{Interval}
use Rattle.lane_filter.specs.declared.numbers.Numbers.{Numbers}
use Rattle.lane_filter.specs.Intervals.{Cuts, high_of}
use Rattle.lane_filter.specs.Lanes.{is_within, kept_within, numbers_of, offset}
use Rattle.lane_filter.specs.Totals.{IsNumber, least_of, most_of, width_of}
use Rattle.lane_filter.proofs.Ends.{Decides-between, ends_of, number_parts}

-- ---- one number

-- bits are a number's, or it is below zero and they are as much more as there are numbers
abbrev pub AreBits : ℕ → ℕ → ℤ → Type 0
AreBits m a z = (a < m) × ((pos a ≡ z) ⊎ (pos a ≡ z +ℤ pos m))

as_bits : (w : Width) → 2 ^ bits w ≡ numbers_of w
as_bits w8 = refl
as_bits w16 = refl
as_bits w32 = refl
as_bits w64 = refl
as_bits w128 = refl

-- the bits of a number of the kind
pub bits_are : (numbers : Numbers) (z : ℤ) → IsNumber numbers z
    → AreBits (numbers_of (number_width (width_of numbers))) (cast_unsigned (number_width (width_of numbers)) z) z
bits_are numbers (pos n) is =
    let e = ends_of numbers in
    let p = number_parts numbers (pos n) is in
    (omega (arith, ints, e.top, p.1, e.none, e.whole), inl refl)
bits_are numbers (negsuc n) is =
    let w = number_width (width_of numbers) in
    let e = ends_of numbers in
    let p = number_parts numbers (negsuc n) is in
    let m = numbers_of w in
    let same : 2 ^ bits w - suc n ≡ m - suc n = ap (λ (k : ℕ). k - suc n) (as_bits w) in
    let room : suc n < m = omega (arith, ints, p.0, e.whole, e.some) in
    (omega (arith, same, room), inr (ap pos same ∙ omega (arith, ints, room)))

-- where one stands above another, and where it stands below
offset_is : (m a b : ℕ) → a < m → b < m
    → ((b ≤ a) × ((a + (m - b)) % m ≡ a - b)) ⊎ ((a < b) × ((a + (m - b)) % m ≡ a + m - b))
offset_is m a b small low =
    elim (cases_lt a b) [
      | inl below ↦ inr (below, mod-eq_of_lt (omega arith) ∙ omega arith)
      | inr above ↦ inl (
        above,
        (let e : a + (m - b) ≡ (a - b) + m * 1 = omega arith in ap (λ (n : ℕ). n % m) e)
            ∙ add-mul-mod_self_left (a - b) m 1 ∙ mod-eq_of_lt (omega arith),
      )
    ]

-- what an offset tells
pub record Tells (o s : ℕ) (l z : ℤ) : Type 0 where
  pub within : o ≤ s → (l ≤ℤ z) × (z ≤ℤ (l +ℤ pos s))
  pub sum : o ≤ s → l +ℤ pos o ≡ z
  pub between : l ≤ℤ z → z ≤ℤ (l +ℤ pos s) → o ≤ s

tells : (m a b o s : ℕ) (z l lo hi : ℤ) → AreBits m a z → AreBits m b l
    → ((b ≤ a) × (o ≡ a - b)) ⊎ ((a < b) × (o ≡ a + m - b)) → lo ≤ℤ z → z ≤ℤ hi → lo ≤ℤ l → (l +ℤ pos s) ≤ℤ hi
    → hi +ℤ pos 1 ≡ lo +ℤ pos m → Tells o s l z
tells m a b o s z l lo hi (x, inl p) (y, inl q) (inl (u, v)) c d e f g = record { within = λ h. (omega (arith, ints, p, q, u, v, h), omega (arith, ints, p, q, u, v, h)); sum = λ h. omega (arith, ints, p, q, u, v, h); between = λ h k. omega (arith, ints, p, q, u, v, h, k) }
tells m a b o s z l lo hi (x, inl p) (y, inl q) (inr (u, v)) c d e f g = record { within = λ h. absurd (omega (arith, ints, p, q, u, v, h, c, d, e, f, g)); sum = λ h. absurd (omega (arith, ints, p, q, u, v, h, c, d, e, f, g)); between = λ h k. absurd (omega (arith, ints, p, q, u, v, h, k)) }
tells m a b o s z l lo hi (x, inl p) (y, inr q) (inl (u, v)) c d e f g = record { within = λ h. absurd (omega (arith, ints, x, y, p, q, u, v, h, c, d, e, f, g)); sum = λ h. absurd (omega (arith, ints, x, y, p, q, u, v, h, c, d, e, f, g)); between = λ h k. absurd (omega (arith, ints, x, y, p, q, u, v, h, k, c, d, e, f, g)) }
tells m a b o s z l lo hi (x, inl p) (y, inr q) (inr (u, v)) c d e f g = record { within = λ h. (omega (arith, ints, x, y, p, q, u, v, h), omega (arith, ints, x, y, p, q, u, v, h)); sum = λ h. omega (arith, ints, x, y, p, q, u, v, h); between = λ h k. omega (arith, ints, x, y, p, q, u, v, h, k) }
tells m a b o s z l lo hi (x, inr p) (y, inl q) (inl (u, v)) c d e f g = record { within = λ h. absurd (omega (arith, ints, x, y, p, q, u, v, h, c, d, e, f, g)); sum = λ h. absurd (omega (arith, ints, x, y, p, q, u, v, h, c, d, e, f, g)); between = λ h k. absurd (omega (arith, ints, x, y, p, q, u, v, h, k)) }
tells m a b o s z l lo hi (x, inr p) (y, inl q) (inr (u, v)) c d e f g = record { within = λ h. absurd (omega (arith, ints, x, y, p, q, u, v, h, c, d, e, f, g)); sum = λ h. absurd (omega (arith, ints, x, y, p, q, u, v, h, c, d, e, f, g)); between = λ h k. absurd (omega (arith, ints, x, y, p, q, u, v, h, k)) }
tells m a b o s z l lo hi (x, inr p) (y, inr q) (inl (u, v)) c d e f g = record { within = λ h. (omega (arith, ints, p, q, u, v, h), omega (arith, ints, p, q, u, v, h)); sum = λ h. omega (arith, ints, p, q, u, v, h); between = λ h k. omega (arith, ints, p, q, u, v, h, k) }
tells m a b o s z l lo hi (x, inr p) (y, inr q) (inr (u, v)) c d e f g = record { within = λ h. absurd (omega (arith, ints, p, q, u, v, h, c, d, e, f, g)); sum = λ h. absurd (omega (arith, ints, p, q, u, v, h, c, d, e, f, g)); between = λ h k. absurd (omega (arith, ints, p, q, u, v, h, k)) }

Decides-within : (s o : ℕ) → Decides (is_within s o) (o ≤ s)
Decides-within s o = elim (leb_tells o s) [
  | inl t ↦ (λ _. t.1, λ _. t.0)
  | inr f ↦ (λ is. absurd (let never : ⊥ = cc (f.0, is) in never), λ le. absurd (omega (arith, f.1, le)))
]

-- What lanes make of one number: whether it is chosen, and how far above the low end it lies.
pub record Chosen (low high : ℤ) (interval : Interval) (w : Width) (z : ℤ) : Type 0 where
  pub test : is_within interval.span (offset w interval.from (cast_unsigned w z)) ≡ is_between low high z
  pub sum : is_between low high z ≡ true → interval.low +ℤ pos (offset w interval.from (cast_unsigned w z)) ≡ z

pub chosen : (numbers : Numbers) (low high : ℤ) (interval : Interval) → Cuts numbers low high interval → (z : ℤ) → IsNumber numbers z
    → Chosen low high interval (number_width (width_of numbers)) z
chosen numbers low high interval cuts z is =
    let w = number_width (width_of numbers) in
    let m = numbers_of w in
    let e = ends_of numbers in
    let p = number_parts numbers z is in
    let q = number_parts numbers interval.low cuts.least in
    let r = number_parts numbers (high_of interval) cuts.most in
    let x = bits_are numbers z is in
    let y = bits_are numbers interval.low cuts.least in
    let P : ℕ → Type 0 = λ b. AreBits m b interval.low in
    let y' = subst P (sym cuts.from) y in
    let o = offset w interval.from (cast_unsigned w z) in
    let t = tells m (cast_unsigned w z) interval.from o interval.span z interval.low (least_of numbers) (most_of numbers) x y'
    (offset_is m (cast_unsigned w z) interval.from x.0 y'.0) p.0 p.1 q.0 r.1 e.whole in
    let test : is_within interval.span o ≡ is_between interval.low (high_of interval) z =
    same_from_decides {P = (interval.low ≤ℤ z) × (z ≤ℤ high_of interval)} (is_within interval.span o) (is_between interval.low (high_of interval) z)
    (λ b. t.within ((Decides-within interval.span o).0 b), λ (b : (interval.low ≤ℤ z) × (z ≤ℤ high_of interval)). (Decides-within interval.span o).1 (t.between b.0 b.1))
    (Decides-between interval.low (high_of interval) z) in
    record {
      test = test ∙ sym (cuts.same z is);
      sum = λ b. t.sum ((Decides-within interval.span o).0 (test ∙ sym (cuts.same z is) ∙ b));
    }

-- ---- many numbers

abbrev pub sum_of : List ℤ → ℤ
sum_of numbers = fold ◌+ℤ◌ (pos 0) numbers

sum_from : (a : ℤ) (zs : List ℤ) → fold ◌+ℤ◌ a zs ≡ a +ℤ sum_of zs
sum_from a [] = omega (arith, ints)
sum_from a (z ∷ zs) = sum_from (a +ℤ z) zs ∙ omega (arith, ints, sum_from (pos 0 +ℤ z) zs)

pub sum-cons : (z : ℤ) (zs : List ℤ) → sum_of (z ∷ zs) ≡ z +ℤ sum_of zs
sum-cons z zs = sum_from (pos 0 +ℤ z) zs ∙ omega (arith, ints)

once_more : (l : ℤ) (c : ℕ) → l *ℤ pos (1 + c) ≡ l +ℤ (l *ℤ pos c)
once_more (pos m) c = omega (arith, ints)
once_more (negsuc m) c = omega (arith, ints)

pub count_chosen : (low high : ℤ) (interval : Interval) (w : Width) (zs : List ℤ) → Each1 (Chosen low high interval w) zs
    → count_by (is_within interval.span) (map (offset w interval.from) (map (cast_unsigned w) zs)) ≡ count_by (is_between low high) zs
count_chosen low high interval w [] each = refl
count_chosen low high interval w (z ∷ zs) each =
    let o = offset w interval.from (cast_unsigned w z) in
    sum_by-cons (λ x. cond (is_within interval.span x) 1 0) o (map (offset w interval.from) (map (cast_unsigned w) zs))
    ∙ (λ i. cond (each.0.test i) 1 0 + count_chosen low high interval w zs each.1 i)
    ∙ sym (sum_by-cons (λ x. cond (is_between low high x) 1 0) z zs)

-- one number more, which is chosen or not
one_more : (l : ℤ) (c o k : ℕ) (z : ℤ) (zs : List ℤ) (b : Bool) → (b ≡ true → l +ℤ pos o ≡ z) → (l *ℤ pos c) +ℤ pos k ≡ sum_of zs
    → (l *ℤ pos (cond b 1 0 + c)) +ℤ pos (cond b o 0 + k) ≡ sum_of (cond b (z ∷ zs) zs)
one_more l c o k z zs true is rest = omega (arith, ints, once_more l c, is refl, rest, sum-cons z zs)
one_more l c o k z zs false is rest = (λ i. (l *ℤ pos (zero-add c i)) +ℤ pos (zero-add k i)) ∙ rest

pub sum_chosen : (low high : ℤ) (interval : Interval) (w : Width) (zs : List ℤ) → Each1 (Chosen low high interval w) zs
    → (interval.low *ℤ pos (count_by (is_between low high) zs))
    +ℤ pos (sum_by (kept_within interval.span) (map (offset w interval.from) (map (cast_unsigned w) zs)))
    ≡ sum_of (filter (is_between low high) zs)
sum_chosen low high interval w [] each = nothing interval.low
  where
    nothing : (l : ℤ) → (l *ℤ pos 0) +ℤ pos 0 ≡ pos 0
    nothing (pos m) = omega (arith, ints)
    nothing (negsuc m) = omega (arith, ints)
sum_chosen low high interval w (z ∷ zs) each =
    let os = map (offset w interval.from) (map (cast_unsigned w) zs) in
    let o = offset w interval.from (cast_unsigned w z) in
    (λ i. (interval.low *ℤ pos (sum_by-cons (λ x. cond (is_between low high x) 1 0) z zs i)) +ℤ pos
    (sum_by-cons (kept_within interval.span) o os i))
    ∙ (λ i. (interval.low *ℤ pos (cond (is_between low high z) 1 0 + count_by (is_between low high) zs)) +ℤ pos
    (cond (each.0.test i) o 0 + sum_by (kept_within interval.span) os))
    ∙ one_more interval.low (count_by (is_between low high) zs) o (sum_by (kept_within interval.span) os) z (filter (is_between low high) zs)
    (is_between low high z) each.0.sum (sum_chosen low high interval w zs each.1)
