-- Numbers of a width and the bytes that hold them.
use Rattle.std.specs.Prelude.{◌≡◌, ℕ, ◌==◌, ◌-◌, ◌*◌, ◌/◌, ◌^◌, ◌≤ℤ◌, ◌<ℤ◌, ◌⊎◌, Bool, true, false}
use Rattle.std.specs.Prelude.{nat_lt, if◌then◌else◌, ℤ, pos, negsuc, neg_ℤ, suc, List, length, map}
use Rattle.std.specs.Prelude.{drop}
use Rattle.std.specs.Int.{Width, w8, w16, w32, w64}
use Rattle.std.specs.List.{All, flat_map, range_with_len}
use Rattle.byteorder.specs.Endian.{little_number}
use Rattle.arrow_spec.specs.Bytes.{number_bytes}

-- a list of numbers of one width in bits, signed or not
pub record Numbers : Type 0 where
  pub width : ℕ
  pub signed : Bool
  pub values : List ℤ

-- the widths that there are
abbrev pub IsWidth : ℕ → Type 0
IsWidth width = (width ≡ 8) ⊎ (width ≡ 16) ⊎ (width ≡ 32) ⊎ (width ≡ 64)

-- a number that a width holds, signed or not
abbrev pub IsInRange : ℕ → Bool → ℤ → Type 0
IsInRange width true value = (neg_ℤ (pos (2 ^ (width - 1))) ≤ℤ value)
    × (value <ℤ pos (2 ^ (width - 1)))
IsInRange width false value = (pos 0 ≤ℤ value) × (value <ℤ pos (2 ^ width))

-- the width of so many bits
abbrev pub width_of : ℕ → Width
width_of width = if width == 8 then w8 else if width == 16 then w16 else if width == 32 then w32
    else w64

-- the bytes of a list of numbers, one after the other
abbrev pub numbers_bytes : ℕ → List ℤ → List ℕ
numbers_bytes width values = flat_map (number_bytes (width_of width)) values

-- the number whose two's complement at a width is n, signed or not
abbrev pub value_of : ℕ → Bool → ℕ → ℤ
value_of width true n = if nat_lt n (2 ^ (width - 1)) then pos n else negsuc (2 ^ width - suc n)
value_of width false n = pos n

-- the number that the first bytes hold
abbrev pub first_value : ℕ → Bool → List ℕ → ℤ
first_value width signed bytes = value_of width signed (little_number (width / 8) bytes)

-- the numbers that bytes hold, one after the other
abbrev pub values_in : ℕ → Bool → List ℕ → List ℤ
values_in width signed bytes =
    map (λ i. first_value width signed (drop (width / 8 * i) bytes))
    (range_with_len 0 (length bytes / (width / 8)))

-- bytes are those of the numbers that they hold, and each is in range
pub record IsStored (width : ℕ) (signed : Bool) (bytes : List ℕ) : Type 0 where
  pub known : IsWidth width
  pub ranged : All (IsInRange width signed) (values_in width signed bytes)
  pub stored : bytes ≡ numbers_bytes width (values_in width signed bytes)
