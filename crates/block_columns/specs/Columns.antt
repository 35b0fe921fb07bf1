-- The columns of a block as slots with or without a row.
use Rattle.std.specs.Prelude.{◌≡◌, ℕ, ◌≤◌, Bool, true, false, List, [], ◌∷◌, Option, None, Some}
use Rattle.std.specs.Prelude.{IsSome, ◌++◌, replicate, map, length, All, slice_index_or, slice_set}
use Rattle.std.specs.Prelude.{if◌then◌else◌}
use Rattle.std.specs.List.{range_with_len, AllZip}
use Rattle.cell_model.specs.declared.cell.Cell.{Cell}
use Rattle.cell_model.specs.declared.cell.Cell.TheVariants.{Null}
use Rattle.cell_model.specs.declared.column.Column.{Column}
use Rattle.cell_model.specs.Rows.{cell_fault}
use Rattle.cell_model.specs.Kinds.{values_of}
use Rattle.block_spec.specs.declared.change.Before.{Before}
use Rattle.block_spec.specs.declared.change.Before.TheVariants as before
use Rattle.block_spec.specs.Slots.{Row}
use Rattle.block_columns.specs.Cells.{ColumnValue, own_bytes}

-- What the columns take, the row of each slot, if it has one, and how many of the first slots have
-- memory.
pub record ColumnsValue : Type 0 where
  pub columns : List Column
  pub rows : List (Option Row)
  pub room : ℕ

abbrev pub columns_in : List ColumnValue → List Column
columns_in columns = map (λ c. c.column) columns

abbrev pub cell_in : ℕ → ColumnValue → Cell
cell_in at c = slice_index_or c.cells at Null

-- the cells of a slot, column by column
abbrev pub cells_at : ℕ → List ColumnValue → List Cell
cells_at at columns = map (cell_in at) columns

abbrev pub row_in : List Bool → List ColumnValue → ℕ → Option Row
row_in taken columns at = if slice_index_or taken at false then Some (cells_at at columns) else None

-- a slot has a row where its bit is set
abbrev pub rows_in : List Bool → List ColumnValue → ℕ → List (Option Row)
rows_in taken columns slots = map (row_in taken columns) (range_with_len 0 slots)

-- the cell of a column in a slot; a slot without a row counts as null
abbrev pub cell_of : ℕ → Option Row → Cell
cell_of column None = Null
cell_of column (Some row) = slice_index_or row column Null

abbrev pub with_cell : ℕ → ColumnValue → Cell → ColumnValue
with_cell at c cell = record c { cells = slice_set c.cells at cell }

-- columns with these cells in a slot
abbrev pub with_row : ℕ → List ColumnValue → List Cell → List ColumnValue
with_row at [] cells = []
with_row at (c ∷ cs) [] = c ∷ cs
with_row at (c ∷ cs) (x ∷ xs) = with_cell at c x ∷ with_row at cs xs

abbrev pub with_null : ℕ → ColumnValue → ColumnValue
with_null at c = with_cell at c Null

-- columns with nulls in a slot
abbrev pub wiped : ℕ → List ColumnValue → List ColumnValue
wiped at columns = map (with_null at) columns

-- the cell keeps the column's rules
abbrev pub CellFits : Column → Cell → Type 0
CellFits column cell = cell_fault 0 column cell ≡ None

-- a column with nulls behind its cells
abbrev pub IsLonger : ColumnValue → ColumnValue → Type 0
IsLonger old new = (n : ℕ) × (new ≡ record old { cells = old.cells ++ replicate n Null })

-- a cell that serves where a column's is moved out: the same, or any where the column's has more
-- than 12 bytes of their own
abbrev pub IsSpare : ℕ → ColumnValue → Cell → Type 0
IsSpare at c spare = length (own_bytes (values_of c.column.kind) (cell_in at c)) ≤ 12
    → spare ≡ cell_in at c

-- a before-image of attributes is laid back on a row
abbrev pub WantsRow : Before → Option Row → Type 0
WantsRow before.Empty row = Unit {0}
WantsRow (before.Whole old) row = Unit {0}
WantsRow (before.Part patch) row = IsSome row

-- The slots with rows are among those with memory, their rows fit, and the other slots are null.
pub record AreColumns (taken : List Bool) (columns : List ColumnValue) (slots : ℕ) : Type 0 where
  pub within : length taken ≤ slots
  pub room : All (λ c. length taken ≤ length c.cells) columns
  pub fits : (at : ℕ) → slice_index_or taken at false ≡ true
      → AllZip CellFits (columns_in columns) (cells_at at columns)
  pub bare : (at : ℕ) → slice_index_or taken at false ≡ false
      → All (λ cell. cell ≡ Null) (cells_at at columns)
