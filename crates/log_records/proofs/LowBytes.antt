-- Bytes are the bytes of the number that they are.
use Rattle.std.proofs.Common.{◌≡◌, ℕ, zero, suc, ◌+◌, ◌*◌, ◌/◌, ◌%◌, ◌^◌, ◌<◌, List, [], ◌∷◌, get_or, length, refl, sym, ◌∙◌, ap, arith}
use Rattle.std.proofs.Math.Nat.{div-div-eq-div-mul, pow-succ'}
use Rattle.std.specs.Int.{byte_at, bytes_low_first}
use Rattle.byteorder.specs.Endian.{little_from, little_number}
use Rattle.byteorder.specs.Numbers.{little_from-cons}

-- a byte further up is that of the number without its lowest
byte_above : (i n : ℕ) → byte_at (suc i) n ≡ byte_at i (n / 256)
byte_above zero n = refl
byte_above (suc i) n =
    ap (λ (m : ℕ). n / m % 256) (pow-succ' 256 (suc i)) ∙ ap (λ (m : ℕ). m % 256) (sym (div-div-eq-div-mul n 256 (256 ^ suc i)))

bytes_above : (i k n : ℕ) → bytes_low_first (suc i) k n ≡ bytes_low_first i k (n / 256)
bytes_above i zero n = refl
bytes_above i (suc k) n = λ j. byte_above i n j ∷ bytes_above (suc i) k n j

-- k bytes, and the number that they are
pub bytes_are : (k : ℕ) (bytes : List ℕ) → length bytes ≡ k → ((i : ℕ) → get_or bytes i 0 < 256) → bytes_low_first 0 k (little_number k bytes) ≡ bytes
bytes_are zero [] same small = refl
bytes_are zero (b ∷ bytes) same small = absurd (omega (arith, same))
bytes_are (suc k) [] same small = absurd (omega (arith, same))
bytes_are (suc k) (b ∷ bytes) same small = one_more (bytes_are k bytes (omega (arith, same)) (λ i. small (suc i)))
  where
    rest : ℕ
    rest = little_number k bytes

    shifted : little_from 1 k (b ∷ bytes) ≡ rest
    shifted = little_from-cons 0 k b bytes

    low : b < 256
    low = small 0

    first : byte_at 0 (b + 256 * little_from 1 k (b ∷ bytes)) ≡ b
    first = omega (arith, low)

    quotient : (b + 256 * little_from 1 k (b ∷ bytes)) / 256 ≡ rest
    quotient = omega (arith, low, shifted)

    one_more : bytes_low_first 0 k rest ≡ bytes → bytes_low_first 0 (suc k) (b + 256 * little_from 1 k (b ∷ bytes)) ≡ b ∷ bytes
    one_more are =
        let others = bytes_above 0 k (b + 256 * little_from 1 k (b ∷ bytes)) ∙ ap (λ (n : ℕ). bytes_low_first 0 k n) quotient ∙ are in
        λ j. first j ∷ others j
