-- The rows of the first slots, where each of these has one.
use Rattle.std.proofs.Common.{◌≡◌, ℕ, zero, suc, ◌<◌, get_or, List, [], ◌∷◌, length, map, take, refl, ap, arith}
use Rattle.std.specs.Prelude.{Option, None, Some, IsSome, flat_map, option_to_list}
use Rattle.block_spec.specs.Slots.{Row}
use Rattle.arrow_spec.specs.Batches.{column_cells}
use Rattle.cell_model.specs.declared.cell.Cell.{Cell}
use Rattle.cell_model.specs.declared.cell.Cell.TheVariants.{Null}
use Rattle.block_columns.specs.Columns.{cell_of}

-- each of so many first slots has a row
abbrev pub HasRows : ℕ → List (Option Row) → Type 0
HasRows n slots = (slot : ℕ) → slot < n → IsSome (get_or slots slot None)

-- the rows of the slots that have one
abbrev pub rows_in_slots : List (Option Row) → List Row
rows_in_slots slots = flat_map (λ slot. option_to_list slot) slots

-- The row of a slot that has none.
abbrev absent : Option Row
absent = None

-- Where each of the first slots has a row, each of those behind the very first has.
later : (n : ℕ) (slot : Option Row) (slots : List (Option Row)) → HasRows (suc n) (slot ∷ slots) → HasRows n slots
later n slot slots held = λ at lt. let next : suc at < suc n = omega arith in held (suc at) next

-- these slots have these rows, in turn
pub held_rows : (n : ℕ) (slots : List (Option Row)) → HasRows n slots → take n slots ≡ map (λ row. Some row) (rows_in_slots (take n slots))
held_rows zero slots held = refl
held_rows (suc n) [] held = refl
held_rows (suc n) (None ∷ slots) held = let none : IsSome absent = held zero (omega arith) in cc
held_rows (suc n) (Some row ∷ slots) held = ap (λ (l : List (Option Row)). Some row ∷ l) (held_rows n slots (later n (Some row) slots held))

-- and these are as many
pub held_count : (n : ℕ) (slots : List (Option Row)) → HasRows n slots → length (rows_in_slots (take n slots)) ≡ n
held_count zero slots held = refl
held_count (suc n) [] held = let none : IsSome absent = held zero (omega arith) in cc
held_count (suc n) (None ∷ slots) held = let none : IsSome absent = held zero (omega arith) in cc
held_count (suc n) (Some row ∷ slots) held = ap suc (held_count n slots (later n (Some row) slots held))

-- the cells of a column of slots that all have rows are the rows' cells
pub column_cells-are : (column : ℕ) (rows : List Row) → map (cell_of column) (map (λ row. Some row) rows) ≡ column_cells column rows
column_cells-are column [] = refl
column_cells-are column (row ∷ rows) = ap (λ (cells : List Cell). get_or row column Null ∷ cells) (column_cells-are column rows)
