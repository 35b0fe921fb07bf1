-- What a comparison with a splat chooses, and what it adds.
use Rattle.std.proofs.Common.{◌≡◌, ℕ, ◌+◌, ◌-◌, ◌*◌, ◌/◌, ◌%◌, ◌^◌, ◌<◌, ◌≤◌, Bool, true, false, cond, List, [], ◌∷◌, map, length, replicate, bit_and, nat_le, refl, sym, ap, subst, ◌∙◌, arith}
use Rattle.std.specs.List.{sum_by}
use Rattle.std.proofs.lemmas.List.{length-map}
use Rattle.std.proofs.lemmas.List.Sums.{sum_by-cons}
use Rattle.std.proofs.Math.Nat.{mod-lt, mul-le-mul_left, zero-mod}
use lib.Bits.{and_mask}
use lib.Lanes.{zip2, sel_l, top, sum_l, Each1, Each2}
use mir.Syntax.{Width}
use mir.Val.{hbits, bits, Fits}
use Rattle.std.proofs.lemmas.Simd.{tops_compared, zip2_splat, sum-zip2, adds_fit, Each1-all, Each1-weaker, length-zip2, map-map}
use Rattle.lane_filter.specs.Lanes.{is_within, kept_within, numbers_in, numbers_of, offset, offsets_in, one_within}

-- ---- lanes that are chosen

-- what a comparison with a splat tells of each lane
choosing : (w : Width) (n span : ℕ) (xs : List ℕ) → length xs ≡ n
    → map (top (hbits w)) (zip2 (λ a b. cond (nat_le a b) (2 ^ bits w - 1) 0) xs (replicate n span)) ≡ map (is_within span) xs
choosing w n span xs is = tops_compared w nat_le xs (replicate n span) ∙ zip2_splat nat_le xs n span is

of_splats : (p : ℕ → Bool) (n a b : ℕ) (xs : List ℕ) → length xs ≡ n
    → sel_l (map p xs) (replicate n a) (replicate n b) ≡ map (λ x. cond (p x) a b) xs
of_splats p n a b [] is = refl
of_splats p n a b (x ∷ xs) is = rw (sym is) (ap (λ ys. cond (p x) a b ∷ ys) (of_splats p (length xs) a b xs refl))

of_lanes : (p : ℕ → Bool) (n b : ℕ) (xs : List ℕ) → length xs ≡ n → sel_l (map p xs) xs (replicate n b) ≡ map (λ x. cond (p x) x b) xs
of_lanes p n b [] is = refl
of_lanes p n b (x ∷ xs) is = rw (sym is) (ap (λ ys. cond (p x) x b ∷ ys) (of_lanes p (length xs) b xs refl))

pub ones_are : (w : Width) (n span : ℕ) (xs : List ℕ) → length xs ≡ n
    → sel_l {A = ℕ} (map (top (hbits w)) (zip2 (λ a b. cond (nat_le a b) (2 ^ bits w - 1) 0) xs (replicate n span))) (replicate n 1) (replicate n 0)
    ≡ map (one_within span) xs
ones_are w n span xs is =
    ap (λ ms. sel_l {A = ℕ} ms (replicate n 1) (replicate n 0)) (choosing w n span xs is) ∙ of_splats (is_within span) n 1 0 xs is

pub kept_are : (w : Width) (n span : ℕ) (xs : List ℕ) → length xs ≡ n
    → sel_l (map (top (hbits w)) (zip2 (λ a b. cond (nat_le a b) (2 ^ bits w - 1) 0) xs (replicate n span))) xs (replicate n 0)
    ≡ map (kept_within span) xs
kept_are w n span xs is = ap (λ ms. sel_l ms xs (replicate n 0)) (choosing w n span xs is) ∙ of_lanes (is_within span) n 0 xs is

pub map_same : (xs : List ℕ) → map (λ x. x) xs ≡ xs
map_same [] = refl
map_same (x ∷ xs) = ap (λ ys. x ∷ ys) (map_same xs)

-- the low and the high halves of lanes that a function gave
pub lows_are : (n : ℕ) (f : ℕ → ℕ) (xs ys : List ℕ) → length xs ≡ n → ys ≡ map f xs
    → zip2 bit_and ys (replicate n (2 ^ 32 - 1)) ≡ map (λ x. f x % 2 ^ 32) xs
lows_are n f xs ys long e =
    ap (λ zs. zip2 bit_and zs (replicate n (2 ^ 32 - 1))) e
    ∙ zip2_splat bit_and (map f xs) n (2 ^ 32 - 1) (length-map xs f ∙ long)
    ∙ map-map (λ y. bit_and y (2 ^ 32 - 1)) f xs
    ∙ map_each xs
  where
    map_each : (zs : List ℕ) → map (λ x. bit_and (f x) (2 ^ 32 - 1)) zs ≡ map (λ x. f x % 2 ^ 32) zs
    map_each [] = refl
    map_each (z ∷ zs) = λ i. and_mask (f z) 32 i ∷ map_each zs i

pub highs_are : (n : ℕ) (f : ℕ → ℕ) (xs ys : List ℕ) → length xs ≡ n → ys ≡ map f xs
    → zip2 (λ a b. a / 2 ^ b) ys (replicate n 32) ≡ map (λ x. f x / 2 ^ 32) xs
highs_are n f xs ys long e =
    ap (λ zs. zip2 (λ a b. a / 2 ^ b) zs (replicate n 32)) e
    ∙ zip2_splat (λ (a b : ℕ). a / 2 ^ b) (map f xs) n 32 (length-map xs f ∙ long)
    ∙ map-map (λ y. y / 2 ^ 32) f xs

-- each offset is below how many numbers of the width there are
below_all : (w : Width) (from : ℕ) (xs : List ℕ) → 0 < numbers_of w → Each1 (λ x. x < numbers_of w) (map (offset w from) xs)
below_all w from [] some = tt
below_all w from (x ∷ xs) some = (mod-lt (x + (numbers_of w - from)) some, below_all w from xs some)

pub offsets_below : (w : Width) (from : ℕ) (bytes xs : List ℕ) → 0 < numbers_of w → xs ≡ offsets_in w from bytes → Each1 (λ x. x < numbers_of w) xs
offsets_below w from bytes xs some e =
    let P : List ℕ → Type 0 = λ ys. Each1 (λ x. x < numbers_of w) ys in subst P (sym e) (below_all w from (numbers_in w bytes) some)

-- ---- sums of lanes

pub sum_map : (f : ℕ → ℕ) (xs : List ℕ) → sum_l (map f xs) ≡ sum_by f xs
sum_map f [] = refl
sum_map f (x ∷ xs) = ap (λ n. f x + n) (sum_map f xs) ∙ sym (sum_by-cons f x xs)

-- adding the lanes that a function gives adds their sum
pub added : (f : ℕ → ℕ) (sums xs more : List ℕ) → length sums ≡ length xs → more ≡ map f xs
    → sum_l (zip2 (λ a b. a + b) sums more) ≡ sum_l sums + sum_by f xs
added f sums xs more same e =
    sum-zip2 sums more (same ∙ sym (length-map xs f) ∙ sym (ap length e))
    ∙ ap (λ n. sum_l sums + n) (ap sum_l e ∙ sum_map f xs)

one_small : (b : Bool) → cond b 1 0 ≤ 1
one_small true = omega arith
one_small false = omega arith

pub ones_few : (span : ℕ) (xs : List ℕ) → sum_l (map (one_within span) xs) ≤ length xs
ones_few span [] = omega arith
ones_few span (x ∷ xs) = omega (arith, ones_few span xs, one_small (is_within span x))

-- what is added for a lane is at most a bound where the lane is chosen, and else nothing
abbrev pub AtMost : ℕ → ℕ → (ℕ → ℕ) → List ℕ → Type 0
AtMost m span f xs = Each1 (λ x. f x ≤ m * one_within span x) xs

pub few : (m span : ℕ) (f : ℕ → ℕ) (xs : List ℕ) → AtMost m span f xs → sum_l (map f xs) ≤ m * sum_l (map (one_within span) xs)
few m span f [] most = omega arith
few m span f (x ∷ xs) most = omega (arith, few m span f xs most.1, most.0)

kept_small : (m x : ℕ) (b : Bool) → x < m → cond b x 0 ≤ m * cond b 1 0
kept_small m x true h = omega arith
kept_small m x false h = omega arith

pub kept_at_most : (m span : ℕ) (xs : List ℕ) → Each1 (λ x. x < m) xs → AtMost m span (kept_within span) xs
kept_at_most m span xs below =
    Each1-weaker (λ x. x < m) (λ x. kept_within span x ≤ m * one_within span x) (λ x h. kept_small m x (is_within span x) h) xs below

low_small : (m x : ℕ) (b : Bool) → 0 < m → cond b x 0 % m ≤ m * cond b 1 0
low_small m x true some = omega (arith, mod-lt x some)
low_small m x false some = omega (arith, zero-mod m)

pub lows_at_most : (m span : ℕ) (xs : List ℕ) → 0 < m → AtMost m span (λ x. kept_within span x % m) xs
lows_at_most m span xs some =
    Each1-all (λ x. kept_within span x % m ≤ m * one_within span x) (λ x. low_small m x (is_within span x) some) xs

high_small : (x : ℕ) (b : Bool) → x < 2 ^ 64 → cond b x 0 / 2 ^ 32 ≤ 2 ^ 32 * cond b 1 0
high_small x true h = omega arith
high_small x false h = omega arith

pub highs_at_most : (span : ℕ) (xs : List ℕ) → Each1 (λ x. x < 2 ^ 64) xs → AtMost (2 ^ 32) span (λ x. kept_within span x / 2 ^ 32) xs
highs_at_most span xs below =
    Each1-weaker (λ x. x < 2 ^ 64) (λ x. kept_within span x / 2 ^ 32 ≤ 2 ^ 32 * one_within span x) (λ x h. high_small x (is_within span x) h) xs
    below

-- a sum is that of the low halves and that of the high ones
pub halves : (f : ℕ → ℕ) (xs : List ℕ) → sum_by (λ x. f x % 2 ^ 32) xs + 2 ^ 32 * sum_by (λ x. f x / 2 ^ 32) xs ≡ sum_by f xs
halves f [] = refl
halves f (x ∷ xs) =
    omega (
      arith,
      halves f xs,
      sum_by-cons f x xs,
      sum_by-cons (λ x. f x % 2 ^ 32) x xs,
      sum_by-cons (λ x. f x / 2 ^ 32) x xs,
    )

-- ---- sums that fit

pub ones_fit : (w : Width) (span : ℕ) (counts xs more : List ℕ) → length xs ≤ 32 → more ≡ map (one_within span) xs → sum_l counts ≤ 2 ^ 15
    → 2 ^ 16 ≤ 2 ^ bits w → Each2 (λ a b. Fits w (a + b)) counts more
ones_fit w span counts xs more long e room wide =
    let sum : sum_l more ≡ sum_l (map (one_within span) xs) = ap sum_l e in
    let small = ones_few span xs in
    adds_fit w counts more (omega arith)

pub sums_fit : (w : Width) (m span : ℕ) (f : ℕ → ℕ) (sums counts xs more : List ℕ) → length xs ≤ 32 → more ≡ map f xs → AtMost m span f xs
    → sum_l sums ≤ m * sum_l counts → sum_l counts ≤ 2 ^ 15 → m * 2 ^ 16 ≤ 2 ^ bits w → 0 < m → Each2 (λ a b. Fits w (a + b)) sums more
sums_fit w m span f sums counts xs more long e most small room wide some =
    let sum : sum_l more ≡ sum_l (map f xs) = ap sum_l e in
    let kept = few m span f xs most in
    let ones : m * sum_l (map (one_within span) xs) ≤ m * 32 = mul-le-mul_left m (omega (arith, ones_few span xs)) in
    let counted : m * sum_l counts ≤ m * 2 ^ 15 = mul-le-mul_left m room in
    adds_fit w sums more (omega arith)

-- the sums stay below what was counted
pub stays_few : (m span : ℕ) (f : ℕ → ℕ) (sums counts xs ones more : List ℕ) → length sums ≡ length xs → length counts ≡ length xs
    → ones ≡ map (one_within span) xs → more ≡ map f xs → AtMost m span f xs → sum_l sums ≤ m * sum_l counts
    → sum_l (zip2 (λ a b. a + b) sums more) ≤ m * sum_l (zip2 (λ a b. a + b) counts ones)
stays_few m span f sums counts xs ones more long same is e most small =
    let sum : sum_l (zip2 (λ a b. a + b) sums more) ≡ sum_l sums + sum_l (map f xs) =
    added f sums xs more long e ∙ ap (λ n. sum_l sums + n) (sym (sum_map f xs)) in
    let count : m * sum_l (zip2 (λ a b. a + b) counts ones) ≡ m * (sum_l counts + sum_l (map (one_within span) xs)) =
    ap (λ n. m * n) (added (one_within span) counts xs ones same is ∙ ap (λ n. sum_l counts + n) (sym (sum_map (one_within span) xs))) in
    omega (arith, few m span f xs most)

-- as many lanes as before
pub same_length : (f : ℕ → ℕ) (n : ℕ) (sums xs more : List ℕ) → length sums ≡ n → length xs ≡ n → more ≡ map f xs
    → length (zip2 (λ a b. a + b) sums more) ≡ n
same_length f n sums xs more long are e =
    length-zip2 (λ a b. a + b) sums more (long ∙ sym are ∙ sym (length-map xs f) ∙ sym (ap length e)) ∙ long
