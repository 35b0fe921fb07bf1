-- A column's values as the buffers of an Arrow array.
use Rattle.std.specs.Prelude.{ℕ, ◌+◌, Bool, false, not, ◌==◌, if◌then◌else◌, List, [], ◌∷◌, ◌++◌}
use Rattle.std.specs.Prelude.{length, map, take, replicate, ℤ, pos, count_by, flat_map}
use Rattle.std.specs.Int.{Width, to_le_bytes}
use Rattle.cell_model.specs.Kinds.{values_of}
use Rattle.cell_model.specs.Values.{is_null}
use Rattle.cell_model.specs.Widths.{number_width, offset_width}
use Rattle.cell_model.specs.declared.cell.Cell.{Cell}
use Rattle.cell_model.specs.declared.cell.Cell.TheVariants.{Num, Truth, Text, Blob}
use Rattle.cell_model.specs.declared.kind.Kind.{Kind}
use Rattle.cell_model.specs.declared.values.Values.{Values}
use Rattle.cell_model.specs.declared.values.Values.TheVariants.{Signed, Unsigned, Truths}
use Rattle.cell_model.specs.declared.values.Values.TheVariants.{Texts, Blobs, Strips}
use Rattle.arrow_spec.specs.Bytes.{bitmap, number_bytes}

-- How values lie in buffers: numbers of a width one after another, truth values in a bitmap, texts
-- and bytes of any length between offsets of a width, or values of so many bytes one after another
-- (Arrow columnar format, "Fixed-size Primitive Layout", "Variable-size Binary Layout").
pub data Layout : Type 0 where
  fixed : Width → Layout
  boolean : Layout
  variable : Width → Layout
  strip : ℕ → Layout

-- the layout of each sort of values
abbrev pub layout_in : Values → Layout
layout_in (Signed width) = fixed (number_width width)
layout_in (Unsigned width) = fixed (number_width width)
layout_in Truths = boolean
layout_in (Texts width) = variable (offset_width width)
layout_in (Blobs width) = variable (offset_width width)
layout_in (Strips bytes) = strip bytes

-- the layout of a kind's values
abbrev pub layout_of : Kind → Layout
layout_of kind = layout_in (values_of kind)

-- the number of a cell; a null slot holds zero
abbrev pub number_of : Cell → ℤ
number_of (Num number) = number
number_of _ = pos 0

-- the truth value of a cell; a null slot holds a zero bit
abbrev pub truth_of : Cell → Bool
truth_of (Truth truth) = truth
truth_of _ = false

-- the bytes of a text or a blob; a null slot holds none
abbrev pub value_of : Cell → List ℕ
value_of (Text text) = text
value_of (Blob bytes) = bytes
value_of _ = []

-- how many slots are null
abbrev pub null_count : List Cell → ℕ
null_count cells = count_by is_null cells

-- The validity bitmap has a 1 for each slot that is not null; it has length 0 exactly where no slot
-- is null (Arrow columnar format, "Validity bitmaps").
abbrev pub validity : List Cell → List ℕ
validity cells = if null_count cells == 0 then []
    else bitmap (map (λ cell. not (is_null cell)) cells)

-- The first value begins at `from`, each other where the one before ends, and one more offset tells
-- where the last ends; so a null slot lies between equal offsets (Arrow columnar format,
-- "Variable-size Binary Layout").
abbrev pub offsets : ℕ → List Cell → List ℕ
offsets from [] = from ∷ []
offsets from (cell ∷ cells) = from ∷ offsets (from + length (value_of cell)) cells

-- so many bytes for a cell: those of its value, and a null slot holds zeros
abbrev pub strip_of : ℕ → Cell → List ℕ
strip_of bytes cell = take bytes (value_of cell ++ replicate bytes 0)

-- the buffers behind the validity: one of data, or offsets from 0 and the values
abbrev pub data_buffers : Layout → List Cell → List (List ℕ)
data_buffers (fixed width) cells = flat_map (λ cell. number_bytes width (number_of cell)) cells ∷ []
data_buffers boolean cells = bitmap (map truth_of cells) ∷ []
data_buffers (variable width) cells = flat_map (to_le_bytes width) (offsets 0 cells)
    ∷ flat_map value_of cells ∷ []
data_buffers (strip bytes) cells = flat_map (strip_of bytes) cells ∷ []

-- The buffers of a column of this kind with these cells: the validity, then the data
-- (Arrow columnar format, "Buffer Listing for Each Layout").
abbrev pub column_buffers : Kind → List Cell → List (List ℕ)
column_buffers kind cells = validity cells ∷ data_buffers (layout_of kind) cells
