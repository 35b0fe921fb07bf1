-- Values of which each has so many bytes, and the bytes that hold them.
use Rattle.std.specs.Prelude.{◌≡◌, ℕ, ◌<◌, ◌/◌, List, length}
use Rattle.std.specs.List.{concat}
use Rattle.std.specs.Simd.{first_chunks}

-- a list of values of so many bytes each
pub record StripList : Type 0 where
  pub width : ℕ
  pub values : List (List ℕ)

-- the values that bytes hold, one after the other
abbrev pub strips_in : ℕ → List ℕ → List (List ℕ)
strips_in width bytes = first_chunks width (length bytes / width) bytes

-- bytes are those of the values that they hold, of which each has some
pub record HoldsStrips (width : ℕ) (bytes : List ℕ) : Type 0 where
  pub some : 0 < width
  pub whole : bytes ≡ concat (strips_in width bytes)
