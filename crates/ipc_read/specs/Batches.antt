-- The rows of a batch as the reader has it: its columns, lent from the body and from dictionaries.
use Rattle.std.specs.Prelude.{ℕ, ◌+◌, Bool, nat_le, List, length, map}
use Rattle.std.specs.List.{list_all, range_with_len}
use Rattle.cell_model.specs.declared.cell.Cell.{Cell}
use Rattle.ipc_read.specs.declared.fields.FieldView.{FieldView}
use Rattle.ipc_read.specs.Fields.{cell_told}
use Rattle.ipc_read.specs.Layouts.{values_in}
use Rattle.ipc_read.specs.Views.{has_room, need_of}

-- A batch: its rows, and how many bytes its message has.
pub record BatchRead : Type 0 where
  pub rows : List (List Cell)
  pub size : ℕ

-- the row in a slot
abbrev pub row_in : List FieldView → ℕ → List Cell
row_in fields i = map (λ field. cell_told field i) fields

-- so many rows
abbrev pub rows_in : ℕ → List FieldView → List (List Cell)
rows_in rows fields = map (row_in fields) (range_with_len 0 rows)

-- the data of a column are long enough for so many rows
abbrev pub has_all : ℕ → FieldView → Bool
has_all rows field = has_room rows field.view

-- those of each column are
abbrev pub have_room : ℕ → List FieldView → Bool
have_room rows fields = list_all (has_all rows) fields

-- the data of a column reach as far as a slot
abbrev pub has_slot : ℕ → FieldView → Bool
has_slot i field =
    nat_le (need_of (values_in field.view.layout) (i + 1)) (length field.view.data.now)

-- those of each column do
abbrev pub have_slot : ℕ → List FieldView → Bool
have_slot i fields = list_all (has_slot i) fields
