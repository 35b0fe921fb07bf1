-- Where a value begins.
use Rattle.std.specs.Prelude.{ℕ, ◌*◌, List, drop}
use Rattle.byteorder.specs.Endian.{little_number}

-- the offset in a slot, of 32 bits
unfoldable pub start_in : List ℕ → ℕ → ℕ
start_in offsets slot = little_number 4 (drop (4 * slot) offsets)
