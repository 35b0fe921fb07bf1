-- The buffers of the first rows of a block.
use Rattle.std.specs.Prelude.{ℕ, ◌+◌, List, [], ◌∷◌, Option, map}
use Rattle.cell_model.specs.declared.column.Column.{Column}
use Rattle.arrow_spec.specs.Arrays.{column_buffers}
use Rattle.block_spec.specs.Slots.{Row}
use Rattle.block_columns.specs.Columns.{cell_of}

-- the buffers of each column of these slots, from column number `at` on; a slot without a row
-- counts as null
abbrev pub buffers_from : ℕ → List Column → List (Option Row) → List (List (List ℕ))
buffers_from at [] slots = []
buffers_from at (column ∷ columns) slots =
    column_buffers column.kind (map (cell_of at) slots) ∷ buffers_from (at + 1) columns slots
