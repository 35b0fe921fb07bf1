-- Numbers are known by their bytes.
use Rattle.std.proofs.Common.{◌≡◌, ℕ, ◌^◌, ◌<◌, List, ◌++◌, drop, sym, ◌∙◌, ap, arith}
use Rattle.std.specs.Prelude.{ℤ, FitsSigned}
use Rattle.std.specs.Int.{Width, w32, w64, w128, bytes_low_first, cast_signed, cast_unsigned, to_le_bytes}
use Rattle.std.proofs.lemmas.List.{drop_at}
use Rattle.std.proofs.lemmas.Int.{ints, to_z-of_z}
use Rattle.byteorder.specs.Endian.{little_number}
use Rattle.byteorder.specs.Numbers.{length-bytes_low_first, little_number-reads_back}

-- a number of k bytes, and what stands behind it, are known by the bytes
pub number_front : (k a b : ℕ) (x y : List ℕ) → a < 256 ^ k → b < 256 ^ k
    → bytes_low_first 0 k a ++ x ≡ bytes_low_first 0 k b ++ y → (a ≡ b) × (x ≡ y)
number_front k a b x y fa fb is = (
  sym (little_number-reads_back k a x fa) ∙ ap (λ (l : List ℕ). little_number k l) is ∙ little_number-reads_back k b y fb,
  sym (drop_at (bytes_low_first 0 k a) x k (length-bytes_low_first 0 k a)) ∙ ap (λ (l : List ℕ). drop k l) is
      ∙ drop_at (bytes_low_first 0 k b) y k (length-bytes_low_first 0 k b),
)

-- the bits of signed numbers tell them apart
bits_apart : (w : Width) (a b : ℤ) → FitsSigned w a → FitsSigned w b → cast_unsigned w a ≡ cast_unsigned w b → a ≡ b
bits_apart w a b fa fb is = sym (to_z-of_z w a fa) ∙ ap (λ (n : ℕ). cast_signed w n) is ∙ to_z-of_z w b fb

bits_fit_64 : (a : ℤ) → FitsSigned w64 a → cast_unsigned w64 a < 256 ^ 8
bits_fit_64 a fits = omega (arith, ints)

bits_fit_128 : (a : ℤ) → FitsSigned w128 a → cast_unsigned w128 a < 256 ^ 16
bits_fit_128 a fits = omega (arith, ints)

-- a signed number of 64 bits, and what stands behind it
pub key_front : (a b : ℤ) (x y : List ℕ) → FitsSigned w64 a → FitsSigned w64 b
    → to_le_bytes w64 (cast_unsigned w64 a) ++ x ≡ to_le_bytes w64 (cast_unsigned w64 b) ++ y → (a ≡ b) × (x ≡ y)
key_front a b x y fa fb is =
    let found = number_front 8 (cast_unsigned w64 a) (cast_unsigned w64 b) x y (bits_fit_64 a fa) (bits_fit_64 b fb) is in
    (bits_apart w64 a b fa fb found.0, found.1)

-- a signed number of 128 bits, and what stands behind it
pub signed_front : (a b : ℤ) (x y : List ℕ) → FitsSigned w128 a → FitsSigned w128 b
    → to_le_bytes w128 (cast_unsigned w128 a) ++ x ≡ to_le_bytes w128 (cast_unsigned w128 b) ++ y → (a ≡ b) × (x ≡ y)
signed_front a b x y fa fb is =
    let found = number_front 16 (cast_unsigned w128 a) (cast_unsigned w128 b) x y (bits_fit_128 a fa) (bits_fit_128 b fb) is in
    (bits_apart w128 a b fa fb found.0, found.1)

-- a count of 32 bits, and what stands behind it
pub count_front : (a b : ℕ) (x y : List ℕ) → a < 2 ^ 32 → b < 2 ^ 32
    → to_le_bytes w32 a ++ x ≡ to_le_bytes w32 b ++ y → (a ≡ b) × (x ≡ y)
count_front a b x y fa fb is = number_front 4 a b x y (omega arith) (omega arith) is
