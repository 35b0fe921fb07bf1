-- The places of slots: how a block and a slot are one number, and are found in it again.
use Rattle.std.specs.Prelude.{ℕ, ◌+◌, ◌*◌, ◌/◌, ◌%◌, ◌^◌}

-- The place of a slot: blocks lie one after another, each with 2 ^ 20 places.
abbrev pub place_of : ℕ → ℕ → ℕ
place_of block slot = block * 2 ^ 20 + slot

-- The block that a place lies in.
abbrev pub block_of : ℕ → ℕ
block_of place = place / 2 ^ 20

-- The slot that a place is in its block.
abbrev pub slot_of : ℕ → ℕ
slot_of place = place % 2 ^ 20
