-- Numbers that lanes take, and those that they choose.
use Rattle.std.specs.Prelude.{ℕ, ◌+◌, ◌-◌, ◌*◌, ◌/◌, ◌%◌, ◌^◌, Bool, nat_le, List, map, count_by}
use Rattle.std.specs.Prelude.{if◌then◌else◌, sum_by, flat_map, [], ◌∷◌, ◌++◌, length, drop}
use Rattle.std.specs.Prelude.{replicate}
use Rattle.std.specs.Simd.{first_chunks}
use Rattle.std.specs.Int.{Width, byte_len}
use Rattle.std.specs.Simd.Lanes.{digits_l, number_l}

-- The low end and how far the high end lies above it, as lanes hold numbers, how many numbers were
-- chosen, and how far they lie above the low end, added up.
pub record LanesValue : Type 0 where
  pub from : ℕ
  pub span : ℕ
  pub count : ℕ
  pub offsets : ℕ

-- no number is taken yet
abbrev pub nothing_taken : ℕ → ℕ → LanesValue
nothing_taken from span = record { from = from; span = span; count = 0; offsets = 0 }

-- how many numbers of a width there are
abbrev pub numbers_of : Width → ℕ
numbers_of width = 2 ^ (8 * byte_len width)

-- how far a number lies above another, counted round the numbers of a width
abbrev pub offset : Width → ℕ → ℕ → ℕ
offset width from number = (number + (numbers_of width - from)) % numbers_of width

-- the numbers of a width in 32 bytes, the lowest byte of each first
abbrev pub numbers_in : Width → List ℕ → List ℕ
numbers_in width bytes = digits_l (numbers_of width) (32 / byte_len width) (number_l 256 bytes)

abbrev pub offsets_in : Width → ℕ → List ℕ → List ℕ
offsets_in width from bytes = map (offset width from) (numbers_in width bytes)

-- an offset is within a span; a one, and the offset itself, where it is
abbrev pub is_within : ℕ → ℕ → Bool
is_within span offset = nat_le offset span

abbrev pub one_within : ℕ → ℕ → ℕ
one_within span offset = if is_within span offset then 1 else 0

abbrev pub kept_within : ℕ → ℕ → ℕ
kept_within span offset = if is_within span offset then offset else 0

-- what is chosen when numbers with these offsets are taken too
abbrev pub with_offsets : List ℕ → LanesValue → LanesValue
with_offsets offsets lanes = record lanes {
  count = lanes.count + count_by (is_within lanes.span) offsets;
  offsets = lanes.offsets + sum_by (kept_within lanes.span) offsets;
}

-- what is chosen when the numbers of 32 bytes are taken too, and those of several steps
abbrev pub with_bytes : Width → List ℕ → LanesValue → LanesValue
with_bytes width bytes lanes = with_offsets (offsets_in width lanes.from bytes) lanes

abbrev pub with_steps : Width → List (List ℕ) → LanesValue → LanesValue
with_steps width steps lanes = with_offsets (flat_map (offsets_in width lanes.from) steps) lanes

-- bytes with zeros behind them to a whole step
abbrev pub padded_step : List ℕ → List ℕ
padded_step bytes = bytes ++ replicate (32 - length bytes) 0

-- bytes in steps of 32, of which the last is padded
abbrev pub steps_of : List ℕ → List (List ℕ)
steps_of bytes = first_chunks 32 (length bytes / 32) bytes
    ++ padded_step (drop (length bytes / 32 * 32) bytes) ∷ []

-- how many numbers of a width are taken of so many bytes
abbrev pub taken_of : Width → ℕ → ℕ
taken_of width len = (len / 32 + 1) * (32 / byte_len width)
