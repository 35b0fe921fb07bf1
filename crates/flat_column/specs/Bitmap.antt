-- Bits as a bitmap: the bit at a place, the first bits, and bytes whose spare bits are zeros.
use Rattle.std.specs.Prelude.{◌≡◌, ◌≢◌, ℕ, ◌<◌, ◌/◌, ◌%◌, ◌^◌, Bool, ◌==◌, if◌then◌else◌, List, map}
use Rattle.std.specs.Prelude.{slice_index}
use Rattle.std.specs.Int.{bit_at}
use Rattle.arrow_spec.specs.Bytes.{bitmap}
use Rattle.std.specs.List.{range_with_len}

-- the bit at a place of a bitmap
abbrev pub bitmap_bit : List ℕ → ℕ → Bool
bitmap_bit bytes place = bit_at (slice_index bytes (place / 8)) (place % 8) == 1

-- the first bits of a bitmap
abbrev pub bitmap_bits : List ℕ → ℕ → List Bool
bitmap_bits bytes len = map (bitmap_bit bytes) (range_with_len 0 len)

-- bytes are the bitmap of their first bits, so the bits after those are zeros
pub record IsPadded (bytes : List ℕ) (len : ℕ) : Type 0 where
  pub padded : bytes ≡ bitmap (bitmap_bits bytes len)
  pub fits : len < 2 ^ 64

-- every element is a byte
pub record AreBytes (bytes : List ℕ) : Type 0 where
  pub below : (k : ℕ) → slice_index bytes k < 256

-- byte `new` is byte `old` with a bit put at a place
pub record PutsBit (old new place : ℕ) (bit : Bool) : Type 0 where
  pub byte : new < 256
  pub same : bit_at new place ≡ (if bit then 1 else 0)
  pub others : (i : ℕ) → i < 8 → i ≢ place → bit_at new i ≡ bit_at old i
