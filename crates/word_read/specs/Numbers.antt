-- Numbers of at most 64 bits.
use Rattle.std.specs.Prelude.{ℕ, ◌^◌, ◌+◌, Bool, true, false, ◌&&◌, nat_lt, not, ◌==◌, List, []}
use Rattle.std.specs.Prelude.{◌∷◌, ℤ, pos, negsuc, Option, None, Some, if◌then◌else◌}
use Rattle.std.specs.Prelude.{option_and_then}
use Rattle.workload_spec.specs.Valid.{is_within}

-- each byte is a decimal digit
abbrev pub are_digits : List ℕ → Bool
are_digits [] = true
are_digits (byte ∷ bytes) = is_within 48 57 byte && are_digits bytes

abbrev pub is_small : ℕ → Bool
is_small number = nat_lt number (2 ^ 64)

-- the number, where it is below 2^64
abbrev pub small_natural : Option ℕ → Option ℕ
small_natural o = option_and_then (λ number. if is_small number then Some number else None) o

abbrev pub magnitude : ℤ → ℕ
magnitude (pos number) = number
magnitude (negsuc number) = number + 1

-- the integer, where its magnitude is below 2^64
abbrev pub small_integer : Option ℤ → Option ℤ
small_integer o = option_and_then
    (λ number. if is_small (magnitude number) then Some number else None) o

-- the first byte is no 0, unless it stands alone
abbrev pub is_unpadded : List ℕ → Bool
is_unpadded [] = false
is_unpadded (digit ∷ []) = true
is_unpadded (digit ∷ next ∷ digits) = not (digit == 48)
