-- The numbers that a workload is generated of: those of a linear congruential generator, which
-- anybody can draw again.
use Rattle.std.specs.Prelude.{ℕ, zero, suc, ◌+◌, ◌*◌, ◌/◌, ◌%◌, ◌^◌}

-- the state behind a draw, from the one before it
abbrev pub state_behind : ℕ → ℕ
state_behind state = (state * 6364136223846793005 + 1442695040888963407) % 2 ^ 64

-- the state behind so many draws: the seed before the first
abbrev pub state_after : ℕ → ℕ → ℕ
state_after seed zero = seed
state_after seed (suc count) = state_behind (state_after seed count)

-- A draw by its number, counted from 1: the upper 31 bits of the state behind it.
abbrev pub draw : ℕ → ℕ → ℕ
draw seed number = state_after seed number / 2 ^ 33
