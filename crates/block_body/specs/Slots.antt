-- The slots of a body, from the rows of its columns and its chains.
use Rattle.std.specs.Prelude.{ℕ, ◌+◌, List, [], ◌∷◌, Option}
use Rattle.block_spec.specs.declared.change.Before.{Before}
use Rattle.block_spec.specs.Slots.{Row, Slot}
use Rattle.undo_chain.specs.declared.undo.Undo.{Undo}

abbrev pub slot_of : Option Row → List (Undo Before) → Slot
slot_of row entries = record { row = row; entries = entries }

-- the slots with these rows, whose entries go by the slot's number, of which the first is `at`
abbrev pub slots_from : (ℕ → List (Undo Before)) → ℕ → List (Option Row) → List Slot
slots_from entries at [] = []
slots_from entries at (row ∷ rows) = slot_of row (entries at) ∷ slots_from entries (at + 1) rows
