-- Bits and numbers as bytes. Numbers are little-endian.
use Rattle.std.specs.Prelude.{ℕ, ◌+◌, ◌-◌, ◌*◌, ◌/◌, Bool, if◌then◌else◌, List, [], ◌∷◌, ◌++◌, map}
use Rattle.std.specs.Prelude.{length, replicate, ℤ}
use Rattle.std.specs.Int.{Width, cast_unsigned, next_multiple_of, to_le_bytes}
use Rattle.std.specs.Simd.{first_chunks}

-- Up to eight bits as a byte, the least significant first; the bits that are missing are 0.
abbrev pub byte_of_bits : List Bool → ℕ
byte_of_bits [] = 0
byte_of_bits (bit ∷ bits) = (if bit then 1 else 0) + 2 * byte_of_bits bits

-- A bitmap is its bits by eights, so bit i is bit i mod 8 of byte i / 8, and the spare bits of the
-- last byte are 0 (Arrow columnar format, "Validity bitmaps").
abbrev pub bitmap : List Bool → List ℕ
bitmap bits = map byte_of_bits (first_chunks 8 ((length bits + 7) / 8) bits)

-- A signed or unsigned number of a width is its two's complement, the lowest byte first
-- (Arrow columnar format, "Fixed-size primitive layout" and "Byte Order (Endianness)").
abbrev pub number_bytes : Width → ℤ → List ℕ
number_bytes width number = to_le_bytes width (cast_unsigned width number)

-- Bytes are padded with zeros to a multiple of 8 (Arrow columnar format, "Buffer Alignment and
-- Padding").
abbrev pub padded : List ℕ → List ℕ
padded bytes = bytes ++ replicate (next_multiple_of (length bytes) 8 - length bytes) 0
