-- Numbers and their bytes.
use Rattle.std.proofs.Common.{◌≡◌, ℕ, zero, suc, ◌+◌, ◌-◌, ◌*◌, ◌/◌, ◌%◌, ◌^◌, ◌<◌, ◌≤◌, List, [], ◌∷◌, ◌++◌, length, replicate, take, drop, refl, sym, ap, ◌∙◌, arith, append_assoc}
use Rattle.std.specs.List.{flat_map}
use Rattle.std.specs.Int.{byte_at, byte_len, bytes_low_first, to_le_bytes}
use Rattle.std.specs.Simd.{first_chunks}
use Rattle.std.proofs.Math.Nat.{add-mul-div_left, add-mul-mod_self_left, div-div-eq-div-mul, div-eq_of_lt, div-one, mod-eq_of_lt, mod-one, mul_assoc, mul_comm, one-le-pow, pow-suc}
use Rattle.std.proofs.lemmas.Grind.{flat_map-append}
use Rattle.std.proofs.lemmas.List.{append-nil, length-append, length-drop, length-replicate, length-take-le, replicate-append-replicate, take-append-drop, take_at, drop_at}
use Rattle.std.proofs.lemmas.Simd.{Each1-chunk}
use Rattle.std.proofs.Math.Seq.{take-add}
use lib.Arith.{mod-mul}
use lib.Lanes.{digits_l, number_l, Each1}
use mir.Syntax.{Width, w8, w16, w32, w64, w128}
use Rattle.lane_filter.specs.Lanes.{numbers_in, numbers_of, padded_step, steps_of, taken_of}

-- the digits of a number that digits spell
pub digits_back : (p n : ℕ) (xs : List ℕ) → length xs ≡ n → Each1 (λ x. x < p) xs → digits_l p n (number_l p xs) ≡ xs
digits_back p n [] is below = ap (λ k. digits_l p k 0) (sym is)
digits_back p n (x ∷ xs) is below =
    let small = below.0 in
    let rest = number_l p xs in
    let low : (x + p * rest) % p ≡ x = add-mul-mod_self_left x p rest ∙ mod-eq_of_lt small in
    let high : (x + p * rest) / p ≡ rest = omega (arith, add-mul-div_left x rest {y = p} (omega arith), div-eq_of_lt small) in
    ap (λ k. digits_l p k (x + p * rest)) (sym is)
    ∙ (λ i. low i ∷ digits_l p (length xs) (high i))
    ∙ ap (λ ys. x ∷ ys) (digits_back p (length xs) xs refl below.1)

pub drop_zeros : (i n : ℕ) → drop i (replicate {A = ℕ} n 0) ≡ replicate (n - i) 0
drop_zeros zero n = ap (λ (k : ℕ). replicate {A = ℕ} k 0) (omega arith)
drop_zeros (suc i) zero = let e : zero ≡ zero - suc i = omega arith in ap (λ (k : ℕ). replicate {A = ℕ} k 0) e
drop_zeros (suc i) (suc n) = let e : n - i ≡ suc n - suc i = omega arith in drop_zeros i n ∙ ap (λ (k : ℕ). replicate {A = ℕ} k 0) e

-- ---- numbers as bytes

byte_is : (i n : ℕ) → byte_at i n ≡ n / 256 ^ i % 256
byte_is zero n = ap (λ m. m % 256) (sym (div-one n))
byte_is (suc i) n = refl

-- so many bytes of a number, from one on, spell a part of it
low_first : (k i n : ℕ) (rest : List ℕ)
    → number_l 256 (bytes_low_first i k n ++ rest) ≡ n / 256 ^ i % 256 ^ k + 256 ^ k * number_l 256 rest
low_first zero i n rest = omega (arith, mod-one (n / 256 ^ i))
low_first (suc k) i n rest =
    let x = n / 256 ^ i in
    let r = number_l 256 rest in
    let next : n / 256 ^ suc i ≡ x / 256 = ap (λ m. n / m) (pow-suc 256 i) ∙ sym (div-div-eq-div-mul n (256 ^ i) 256) in
    let part : x % 256 ^ suc k ≡ x / 256 % 256 ^ k * 256 + x % 256 =
    ap (λ m. x % m) (pow-suc 256 k) ∙ mod-mul x {m = 256 ^ k} {c = 256} (one-le-pow k 256 (omega arith)) (omega arith) in
    let high : 256 ^ suc k * r ≡ 256 * (256 ^ k * r) =
    ap (λ m. m * r) (pow-suc 256 k ∙ mul_comm (256 ^ k) 256) ∙ mul_assoc 256 (256 ^ k) r in
    let spelled : number_l 256 (bytes_low_first (suc i) k n ++ rest) ≡ x / 256 % 256 ^ k + 256 ^ k * r =
    low_first k (suc i) n rest ∙ ap (λ m. m % 256 ^ k + 256 ^ k * r) next in
    omega (arith, byte_is i n, part, high, spelled)

as_many : (w : Width) → 256 ^ byte_len w ≡ numbers_of w
as_many w8 = refl
as_many w16 = refl
as_many w32 = refl
as_many w64 = refl
as_many w128 = refl

pub some_numbers : (w : Width) → 0 < numbers_of w
some_numbers w8 = omega arith
some_numbers w16 = omega arith
some_numbers w32 = omega arith
some_numbers w64 = omega arith
some_numbers w128 = omega arith

one_number : (w : Width) (n : ℕ) (rest : List ℕ) → n < numbers_of w
    → number_l 256 (to_le_bytes w n ++ rest) ≡ n + numbers_of w * number_l 256 rest
one_number w n rest below =
    let whole : n / 256 ^ 0 % 256 ^ byte_len w ≡ n =
    ap (λ m. m % 256 ^ byte_len w) (div-one n) ∙ ap (λ m. n % m) (as_many w) ∙ mod-eq_of_lt below in
    low_first (byte_len w) 0 n rest ∙ (λ i. whole i + as_many w i * number_l 256 rest)

all_numbers : (w : Width) (ns : List ℕ) → Each1 (λ n. n < numbers_of w) ns
    → number_l 256 (flat_map (to_le_bytes w) ns) ≡ number_l (numbers_of w) ns
all_numbers w [] below = refl
all_numbers w (n ∷ ns) below =
    one_number w n (flat_map (to_le_bytes w) ns) below.0 ∙ ap (λ m. n + numbers_of w * m) (all_numbers w ns below.1)

-- how many numbers stand in a step
abbrev pub per : Width → ℕ
per w = 32 / byte_len w

-- the numbers of a step are those whose bytes it has
numbers_back : (w : Width) (ns : List ℕ) → length ns ≡ per w → Each1 (λ n. n < numbers_of w) ns
    → numbers_in w (flat_map (to_le_bytes w) ns) ≡ ns
numbers_back w ns is below = ap (digits_l (numbers_of w) (per w)) (all_numbers w ns below) ∙ digits_back (numbers_of w) (per w) ns is below

-- ---- steps

bytes_of : (w : Width) (n : ℕ) → length (to_le_bytes w n) ≡ byte_len w
bytes_of w8 n = refl
bytes_of w16 n = refl
bytes_of w32 n = refl
bytes_of w64 n = refl
bytes_of w128 n = refl

pub step_of : (w : Width) → per w * byte_len w ≡ 32
step_of w8 = refl
step_of w16 = refl
step_of w32 = refl
step_of w64 = refl
step_of w128 = refl

zero_bytes : (w : Width) → to_le_bytes w 0 ≡ replicate (byte_len w) 0
zero_bytes w8 = refl
zero_bytes w16 = refl
zero_bytes w32 = refl
zero_bytes w64 = refl
zero_bytes w128 = refl

-- the bytes of the first numbers are the first bytes, and those of the others the rest
pub length_bytes : (w : Width) (ns : List ℕ) → length (flat_map (to_le_bytes w) ns) ≡ length ns * byte_len w
length_bytes w [] = omega arith
length_bytes w (n ∷ ns) =
    length-append (to_le_bytes w n) (flat_map (to_le_bytes w) ns)
    ∙ omega (arith, bytes_of w n, length_bytes w ns)

first_bytes : (w : Width) (m : ℕ) (ns : List ℕ) → m ≤ length ns
    → (take (m * byte_len w) (flat_map (to_le_bytes w) ns) ≡ flat_map (to_le_bytes w) (take m ns))
    × (drop (m * byte_len w) (flat_map (to_le_bytes w) ns) ≡ flat_map (to_le_bytes w) (drop m ns))
first_bytes w m ns few =
    let f = to_le_bytes w in
    let whole : flat_map f ns ≡ flat_map f (take m ns) ++ flat_map f (drop m ns) =
    ap (flat_map f) (sym (take-append-drop m ns)) ∙ flat_map-append f (take m ns) (drop m ns) in
    let long : length (flat_map f (take m ns)) ≡ m * byte_len w =
    length_bytes w (take m ns) ∙ ap (λ k. k * byte_len w) (length-take-le m ns few) in (
      ap (take (m * byte_len w)) whole ∙ take_at (flat_map f (take m ns)) (flat_map f (drop m ns)) (m * byte_len w) long,
      ap (drop (m * byte_len w)) whole ∙ drop_at (flat_map f (take m ns)) (flat_map f (drop m ns)) (m * byte_len w) long,
    )

Each1-drop : (w : Width) (m : ℕ) (xs : List ℕ) → Each1 (λ n. n < numbers_of w) xs → Each1 (λ n. n < numbers_of w) (drop m xs)
Each1-drop w zero xs h = h
Each1-drop w (suc m) [] h = tt
Each1-drop w (suc m) (x ∷ xs) h = Each1-drop w m xs h.1

-- the numbers of so many steps are the first ones
chunks_back : (w : Width) (j : ℕ) (ns : List ℕ) → j * per w ≤ length ns → Each1 (λ n. n < numbers_of w) ns
    → flat_map (numbers_in w) (first_chunks 32 j (flat_map (to_le_bytes w) ns)) ≡ take (j * per w) ns
chunks_back w zero ns few below = let e : zero ≡ zero * per w = omega arith in ap (λ (k : ℕ). take k ns) e
chunks_back w (suc j) ns few below =
    let f = to_le_bytes w in
    let split = first_bytes w (per w) ns (omega arith) in
    let step = step_of w in
    let front : take 32 (flat_map f ns) ≡ flat_map f (take (per w) ns) = ap (λ (k : ℕ). take k (flat_map f ns)) (sym step) ∙ split.0 in
    let back : drop 32 (flat_map f ns) ≡ flat_map f (drop (per w) ns) = ap (λ (k : ℕ). drop k (flat_map f ns)) (sym step) ∙ split.1 in
    let first : numbers_in w (take 32 (flat_map f ns)) ≡ take (per w) ns =
    ap (numbers_in w) front ∙ numbers_back w (take (per w) ns) (length-take-le (per w) ns (omega arith)) (Each1-chunk (λ n. n < numbers_of w) 0 (per w) ns below) in
    let others : flat_map (numbers_in w) (first_chunks 32 j (drop 32 (flat_map f ns))) ≡ take (j * per w) (drop (per w) ns) =
    ap (λ bytes. flat_map (numbers_in w) (first_chunks 32 j bytes)) back
    ∙ chunks_back w j (drop (per w) ns) (omega (arith, length-drop (per w) ns)) (Each1-drop w (per w) ns below) in
    (λ i. first i ++ others i) ∙ sym (take-add (per w) (j * per w) ns) ∙ (let e : per w + j * per w ≡ suc j * per w = omega arith in ap (λ (k : ℕ). take k ns) e)

zeros_bytes : (w : Width) (m : ℕ) → flat_map (to_le_bytes w) (replicate m 0) ≡ replicate (m * byte_len w) 0
zeros_bytes w zero = let e : 0 ≡ 0 * byte_len w = omega arith in ap (λ (k : ℕ). replicate {A = ℕ} k 0) e
zeros_bytes w (suc m) =
    (λ i. zero_bytes w i ++ zeros_bytes w m i)
    ∙ replicate-append-replicate (byte_len w) (m * byte_len w) 0
    ∙ (let e : byte_len w + m * byte_len w ≡ suc m * byte_len w = omega arith in ap (λ (k : ℕ). replicate {A = ℕ} k 0) e)

zeros_below : (w : Width) (xs : List ℕ) (m : ℕ) → Each1 (λ n. n < numbers_of w) xs → Each1 (λ n. n < numbers_of w) (xs ++ replicate m 0)
zeros_below w [] zero h = tt
zeros_below w [] (suc m) h = (some_numbers w, zeros_below w [] m h)
zeros_below w (x ∷ xs) m h = (h.0, zeros_below w xs m h.1)

-- the numbers of the last step are those that are left, and zeros
last_back : (w : Width) (ns : List ℕ) → length ns ≤ per w → Each1 (λ n. n < numbers_of w) ns
    → numbers_in w (padded_step (flat_map (to_le_bytes w) ns)) ≡ ns ++ replicate (per w - length ns) 0
last_back w ns few below =
    let f = to_le_bytes w in
    let m = per w - length ns in
    let left : 32 - length (flat_map f ns) ≡ m * byte_len w = rest w (length ns) (length (flat_map f ns)) few (length_bytes w ns) in
    let bytes : padded_step (flat_map f ns) ≡ flat_map f (ns ++ replicate m 0) =
    ap (λ zeros. flat_map f ns ++ zeros) (ap (λ (k : ℕ). replicate {A = ℕ} k 0) left ∙ sym (zeros_bytes w m))
    ∙ sym (flat_map-append f ns (replicate m 0)) in
    let long : length (ns ++ replicate m 0) ≡ per w = omega (arith, length-append ns (replicate m 0), length-replicate {A = ℕ} m 0) in
    ap (numbers_in w) bytes ∙ numbers_back w (ns ++ replicate m 0) long (zeros_below w ns m below)
  where
    rest : (w : Width) (n k : ℕ) → n ≤ per w → k ≡ n * byte_len w → 32 - k ≡ (per w - n) * byte_len w
    rest w8 n k a e = omega arith
    rest w16 n k a e = omega arith
    rest w32 n k a e = omega arith
    rest w64 n k a e = omega arith
    rest w128 n k a e = omega arith

record Counts (w : Width) (n len : ℕ) : Type 0 where
  whole : len / 32 * per w ≤ n
  front : len / 32 * per w * byte_len w ≡ len / 32 * 32
  few : n - len / 32 * per w ≤ per w
  left : per w - (n - len / 32 * per w) ≡ taken_of w len - n

counts : (w : Width) (n len : ℕ) → len ≡ n * byte_len w → Counts w n len
counts w8 n len e = record { whole = omega arith; front = omega arith; few = omega arith; left = omega arith }
counts w16 n len e = record { whole = omega arith; front = omega arith; few = omega arith; left = omega arith }
counts w32 n len e = record { whole = omega arith; front = omega arith; few = omega arith; left = omega arith }
counts w64 n len e = record { whole = omega arith; front = omega arith; few = omega arith; left = omega arith }
counts w128 n len e = record { whole = omega arith; front = omega arith; few = omega arith; left = omega arith }

pub taken_more : (w : Width) (n len : ℕ) → len ≡ n * byte_len w → n ≤ taken_of w len
taken_more w8 n len e = omega arith
taken_more w16 n len e = omega arith
taken_more w32 n len e = omega arith
taken_more w64 n len e = omega arith
taken_more w128 n len e = omega arith

-- The numbers of all steps of bytes are those whose bytes these are, and zeros.
pub steps_back : (w : Width) (ns : List ℕ) (bytes : List ℕ) → bytes ≡ flat_map (to_le_bytes w) ns → Each1 (λ n. n < numbers_of w) ns
    → flat_map (numbers_in w) (steps_of bytes) ≡ ns ++ replicate (taken_of w (length bytes) - length ns) 0
steps_back w ns bytes is below =
    let f = to_le_bytes w in
    let len = length bytes in
    let long : len ≡ length ns * byte_len w = ap length is ∙ length_bytes w ns in
    let c = counts w (length ns) len long in
    let m = len / 32 * per w in
    let split = first_bytes w m ns c.whole in
    let whole : flat_map (numbers_in w) (first_chunks 32 (len / 32) bytes) ≡ take m ns =
    ap (λ bs. flat_map (numbers_in w) (first_chunks 32 (len / 32) bs)) is ∙ chunks_back w (len / 32) ns c.whole below in
    let behind : drop (len / 32 * 32) bytes ≡ flat_map f (drop m ns) =
    ap (λ (k : ℕ). drop k bytes) (sym c.front) ∙ ap (drop (m * byte_len w)) is ∙ split.1 in
    let last : numbers_in w (padded_step (drop (len / 32 * 32) bytes)) ≡ drop m ns ++ replicate (taken_of w len - length ns) 0 =
    ap (λ bs. numbers_in w (padded_step bs)) behind
    ∙ last_back w (drop m ns) (omega (arith, length-drop m ns, c.few)) (Each1-drop w m ns below)
    ∙ ap (λ (k : ℕ). drop m ns ++ replicate k 0) (omega (arith, length-drop m ns, c.left)) in
    flat_map-append (numbers_in w) (first_chunks 32 (len / 32) bytes) (padded_step (drop (len / 32 * 32) bytes) ∷ [])
    ∙ (λ i. whole i ++ (append-nil (numbers_in w (padded_step (drop (len / 32 * 32) bytes))) ∙ last) i)
    ∙ sym (append_assoc (take m ns) (drop m ns) (replicate (taken_of w len - length ns) 0))
    ∙ ap (λ xs. xs ++ replicate (taken_of w len - length ns) 0) (take-append-drop m ns)
