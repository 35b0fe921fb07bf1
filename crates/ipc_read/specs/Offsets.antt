-- Offsets of a column.
use Rattle.std.specs.Prelude.{ℕ, ◌+◌, Bool, List, int_le}
use Rattle.std.specs.Int.{Width}
use Rattle.stream_spec.specs.Columns.{offset_of}

-- the offset behind this one is not below it
abbrev pub rises : Width → List ℕ → ℕ → Bool
rises width offsets i = int_le (offset_of width offsets i) (offset_of width offsets (i + 1))
