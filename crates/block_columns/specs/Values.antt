-- How a value of any length is stored: at most 12 bytes in its entry, more in bytes of its own.
use Rattle.std.specs.Prelude.{ℕ, ◌<◌, List, [], length}
use Rattle.varlen_entry.specs.Entry.{IsInline, value_of}
use Rattle.block_columns.specs.declared.value.Stored.{Stored}
use Rattle.block_columns.specs.declared.value.Stored.TheVariants.{Inline, Owned}

abbrev pub stored_bytes : Stored → List ℕ
stored_bytes (Inline entry) = value_of entry [] []
stored_bytes (Owned bytes) = bytes

-- a short value stands in its entry and nowhere else
abbrev pub IsStored : Stored → Type 0
IsStored (Inline entry) = IsInline entry
IsStored (Owned bytes) = 12 < length bytes
