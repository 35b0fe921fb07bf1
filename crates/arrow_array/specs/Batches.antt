-- How many columns a batch may have, and what they are built from.
use Rattle.std.specs.Prelude.{ℕ, ◌+◌, ◌<◌, ◌^◌, Bool, not, ◌||◌, ◌&&◌, nat_lt, List, [], length}
use Rattle.std.specs.Prelude.{flat_map, ℤ}
use Rattle.std.specs.List.{slice_index_or}
use Rattle.arrow_spec.specs.Arrays.{Layout, fixed, boolean, variable, strip, layout_in, truth_of}
use Rattle.arrow_spec.specs.Batches.{Array}
use Rattle.arrow_spec.specs.Bytes.{number_bytes}
use Rattle.cell_model.specs.Kinds.{most_bytes_in}
use Rattle.cell_model.specs.Values.{is_null, is_value_in, byte_length}
use Rattle.cell_model.specs.declared.cell.Cell.{Cell}
use Rattle.cell_model.specs.declared.cell.Cell.TheVariants.{Null}
use Rattle.cell_model.specs.declared.values.Values.{Values}
use Rattle.arrow_array.specs.declared.bitmaps.Bit.{Bit}
use Rattle.arrow_array.specs.declared.bitmaps.Bit.TheVariants as bit

-- a batch: how many rows it has, and its columns
pub record BatchView : Type 0 where
  pub rows : ℕ
  pub arrays : List Array

-- There are so few columns and buffers that the size of a message's metadata, which tells a node of
-- each column and the place of each buffer, fits its 32 bits (Arrow columnar format, "RecordBatch
-- message" and "Encapsulated message format").
abbrev pub AreFew : List Array → Type 0
AreFew arrays = length arrays + length (flat_map (λ array. array.buffers) arrays) < 2 ^ 26

-- the cell of a row at a place; one that is not there counts as null
abbrev pub cell_at : ℕ → List Cell → Cell
cell_at place row = slice_index_or row place Null

-- the cell is null, or one of the values that is not too long
abbrev pub is_slot_of : Values → Cell → Bool
is_slot_of values cell = is_null cell
    || (is_value_in values cell && not (nat_lt (most_bytes_in values) (byte_length cell)))

-- What a bit of a bitmap tells of a cell: that it is not null, or its truth value (Arrow columnar
-- format, "Validity bitmaps" and "Fixed-size Primitive Layout").
abbrev pub bit_of : Bit → Cell → Bool
bit_of bit.Valid cell = not (is_null cell)
bit_of bit.Truth cell = truth_of cell

-- A number in a layout: the bytes of its width; there are none in others (Arrow columnar format,
-- "Fixed-size Primitive Layout" and "Byte Order (Endianness)").
abbrev pub bytes_in : Layout → ℤ → List ℕ
bytes_in (fixed width) number = number_bytes width number
bytes_in boolean number = []
bytes_in (variable width) number = []
bytes_in (strip bytes) number = []

-- a number as one of the values
abbrev pub value_bytes : Values → ℤ → List ℕ
value_bytes values number = bytes_in (layout_in values) number
