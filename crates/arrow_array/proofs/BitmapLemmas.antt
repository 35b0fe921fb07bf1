-- Bits that are added to a byte, and bytes to a bitmap.
use Rattle.std.proofs.Common.{◌≡◌, ℕ, suc, ◌+◌, ◌-◌, ◌*◌, ◌/◌, ◌^◌, ◌<◌, ◌≤◌, Bool, true, false, List, [], ◌∷◌, ◌++◌, length, take, drop, get_or, map, min, refl, sym, ap, ◌∙◌, arith, inl, inr, append_assoc}
use Rattle.std.specs.Prelude.{if◌then◌else◌}
use Rattle.std.specs.Int.{from_bool}
use Rattle.std.specs.Simd.{first_chunks}
use Rattle.std.proofs.lemmas.List.{length-map, length-drop, take-map, drop-map, take_min, drop_all}
use Rattle.std.proofs.lemmas.Bool.{cases_lt}
use Rattle.arrow_spec.specs.Bytes.{byte_of_bits, bitmap}
use Rattle.arrow_array.proofs.Splits.{split-at}

-- a truth value as a number
pub number-of-bit : (bit : Bool) → from_bool bit ≡ (if bit then 1 else 0)
number-of-bit true = refl
number-of-bit false = refl

-- a bit is at most one
pub bit-le-1 : (bit : Bool) → from_bool bit ≤ 1
bit-le-1 true = omega arith
bit-le-1 false = omega arith

-- one more bit stands before the others
pub bit-added : {X : Type 0} (f : X → Bool) (xs : List X) (item : X) (at byte bit : ℕ)
    → 0 < at → at ≤ length xs → item ≡ get_or xs (at - 1) item → bit ≡ from_bool (f item) → byte ≡ byte_of_bits (map f (drop at xs))
    → 2 * byte + bit ≡ byte_of_bits (map f (drop (at - 1) xs))
bit-added {X = X} f xs item at byte bit above inside is bit_is before =
    let next : (at - 1) + 1 ≡ at = omega arith in
    let there : byte_of_bits (map f (drop (at - 1) xs)) ≡ (if f item then 1 else 0) + 2 * byte_of_bits (map f (drop ((at - 1) + 1) xs)) =
    ap (λ (all : List X). byte_of_bits (map f all)) (split-at xs item (at - 1) (omega arith) is) in
    let same : byte_of_bits (map f (drop ((at - 1) + 1) xs)) ≡ byte_of_bits (map f (drop at xs)) =
    ap (λ (n : ℕ). byte_of_bits (map f (drop n xs))) next in
    let number : bit ≡ (if f item then 1 else 0) = bit_is ∙ number-of-bit (f item) in
    omega arith

-- and the byte stays below the power of 2 of its bits
pub byte-below : (bit : Bool) (at most byte number : ℕ) → 0 < at → at ≤ most → number ≡ from_bool bit → byte < 2 ^ (most - at)
    → 2 * byte + number < 2 ^ (most - (at - 1))
byte-below bit at most byte number above inside is before =
    let longer : most - (at - 1) ≡ suc (most - at) = omega arith in
    let small : from_bool bit ≤ 1 = bit-le-1 bit in
    let double : 2 ^ (most - (at - 1)) ≡ 2 * 2 ^ (most - at) = ap (λ (n : ℕ). 2 ^ n) longer ∙ omega arith in
    omega arith

-- nothing stands past all of a list
drop-most : {X : Type 0} (xs : List X) (most count : ℕ) → count ≡ min (length xs) most → drop most xs ≡ drop count xs
drop-most xs most count is =
    elim (cases_lt (length xs) most) [
      | inl fewer ↦ drop_all most xs (omega arith) ∙ sym (drop_all count xs (omega arith))
      | inr more ↦ ap (λ (n : ℕ). drop n xs) (omega arith)
    ]

-- one more byte, of eight bits or of all that there are, before the others
byte-before : {X : Type 0} (f : X → Bool) (xs : List X) (count : ℕ) → 0 < length xs → count ≡ min (length xs) 8
    → bitmap (map f xs) ≡ byte_of_bits (map f (take count xs)) ∷ bitmap (map f (drop count xs))
byte-before {X = X} f xs count some is =
    let left : length (map f (drop count xs)) ≡ length xs - count = length-map (drop count xs) f ∙ length-drop count xs in
    let all : length (map f xs) ≡ length xs = length-map xs f in
    let chunks : (length (map f xs) + 7) / 8 ≡ suc ((length (map f (drop count xs)) + 7) / 8) = omega arith in
    let rest : ℕ = (length (map f (drop count xs)) + 7) / 8 in
    let least : min 8 (length xs) ≡ count = omega arith in
    let front : take 8 (map f xs) ≡ map f (take count xs) =
    take-map f 8 xs ∙ ap (map f) (sym (take_min 8 xs) ∙ ap (λ (n : ℕ). take n xs) least) in
    let back : drop 8 (map f xs) ≡ map f (drop count xs) = drop-map f 8 xs ∙ ap (map f) (drop-most xs 8 count is) in
    ap (λ (n : ℕ). map byte_of_bits (first_chunks 8 n (map f xs))) chunks
    ∙ ap (λ (bits : List Bool). byte_of_bits bits ∷ map byte_of_bits (first_chunks 8 rest (drop 8 (map f xs)))) front
    ∙ ap (λ (bits : List Bool). byte_of_bits (map f (take count xs)) ∷ map byte_of_bits (first_chunks 8 rest bits)) back

-- a byte was added to a bitmap
pub byte-added : {X : Type 0} (f : X → Bool) (xs front back : List X) (count byte : ℕ) (bytes grown all : List ℕ)
    → 0 < length xs → count ≡ min (length xs) 8 → front ≡ take count xs → back ≡ drop count xs
    → byte ≡ byte_of_bits (map f front) → grown ≡ bytes ++ byte ∷ []
    → bytes ++ bitmap (map f xs) ≡ all → grown ++ bitmap (map f back) ≡ all
byte-added {X = X} f xs front back count byte bytes grown all some is front_is back_is byte_is added before =
    ap (λ (b : List ℕ). b ++ bitmap (map f back)) added
    ∙ append_assoc bytes (byte ∷ []) (bitmap (map f back))
    ∙ ap (λ (n : ℕ). bytes ++ n ∷ bitmap (map f back)) (byte_is ∙ ap (λ (xs : List X). byte_of_bits (map f xs)) front_is)
    ∙ ap (λ (xs' : List X). bytes ++ byte_of_bits (map f (take count xs)) ∷ bitmap (map f xs')) back_is
    ∙ ap (λ (b : List ℕ). bytes ++ b) (sym (byte-before f xs count some is))
    ∙ before
