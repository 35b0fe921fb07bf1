-- Columns whose rows stand in front.
use Rattle.std.specs.Prelude.{ℕ, ◌<◌, ◌≤◌, ◌^◌, IsSome, List, Option, None, flat_map}
use Rattle.std.specs.Prelude.{option_to_list, slice_index_or, take}
use Rattle.block_spec.specs.Slots.{Row}
use Rattle.cell_model.specs.declared.column.Column.{Column}

-- What the columns take, the row of each slot, if it has one, and how many of the first slots are
-- meant.
pub record FrontValue : Type 0 where
  pub columns : List Column
  pub slots : List (Option Row)
  pub rows : ℕ

-- the rows of these slots
abbrev pub rows_of_front : FrontValue → List Row
rows_of_front front = flat_map (λ slot. option_to_list slot) (take front.rows front.slots)

-- Each of so many first slots has a row, and they are no more than a block has.
pub record IsFilled (slots : List (Option Row)) (rows : ℕ) : Type 0 where
  pub held : (slot : ℕ) → slot < rows → IsSome (slice_index_or slots slot None)
  pub few : rows ≤ 2 ^ 15
