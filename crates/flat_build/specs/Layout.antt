-- How the objects of a flatbuffer are laid one after another. All numbers are little-endian, and
-- gaps are zero.
use Rattle.std.specs.Prelude.{ℕ, ◌+◌, ◌-◌, ◌*◌, List, [], ◌∷◌, ◌++◌, length, take, drop, replicate}
use Rattle.std.specs.Prelude.{slice_index}
use Rattle.std.specs.Int.{next_multiple_of}
use Rattle.std.specs.List.{flat_map}
use Rattle.byteorder.specs.Endian.{little_bytes}

-- The bytes of an empty flatbuffer: four for the root's place and four zeros.
abbrev pub empty_flatbuffer : List ℕ
empty_flatbuffer = replicate 8 0

-- A vtable begins at the least multiple of 8 that is not before the end of the bytes.
abbrev pub vtable_place : List ℕ → ℕ
vtable_place bytes = next_multiple_of (length bytes) 8

-- A table begins at the least multiple of 8 that is not before the end of its vtable, which has two
-- bytes for each word.
abbrev pub table_place : List ℕ → List ℕ → ℕ
table_place bytes vtable = next_multiple_of (vtable_place bytes + 2 * length vtable) 8

-- A table has the size that its vtable's second word tells.
abbrev pub table_end : List ℕ → List ℕ → ℕ
table_end bytes vtable = table_place bytes vtable + slice_index vtable 1

-- The length word of a vector or string stands at the least place, not before the end of the bytes,
-- that is 4 past a multiple of 8.
abbrev pub length_place : List ℕ → ℕ
length_place bytes = next_multiple_of (length bytes + 4) 8 - 4

-- A vector is its length word of four bytes and its elements.
abbrev pub vector_end : List ℕ → ℕ → ℕ → ℕ
vector_end bytes count width = length_place bytes + 4 + count * width

-- A string is its length word of four bytes, its text and a zero byte.
abbrev pub string_end : List ℕ → List ℕ → ℕ
string_end bytes text = length_place bytes + 4 + length text + 1

-- The bytes, then zeros up to a place, then the piece that stands there.
abbrev pub with_piece : List ℕ → ℕ → List ℕ → List ℕ
with_piece bytes place piece = bytes ++ replicate (place - length bytes) 0 ++ piece

-- The bytes with a vtable laid after them.
abbrev pub with_vtable : List ℕ → List ℕ → List ℕ
with_vtable bytes vtable = with_piece bytes (vtable_place bytes) (flat_map (little_bytes 2) vtable)

-- The bytes with a vtable and its table laid after them: the table's first word is its place minus
-- its vtable's place, and its fields are zero.
abbrev pub with_table : List ℕ → List ℕ → List ℕ
with_table bytes vtable =
    with_piece (with_vtable bytes vtable) (table_place bytes vtable)
    (little_bytes 4 (table_place bytes vtable - vtable_place bytes))
    ++ replicate (slice_index vtable 1 - 4) 0

-- The bytes with a vector of `count` elements of `width` zero bytes each laid after them.
abbrev pub with_vector : List ℕ → ℕ → ℕ → List ℕ
with_vector bytes count width = with_piece bytes (length_place bytes) (little_bytes 4 count)
    ++ replicate (count * width) 0

-- The bytes with a string laid after them, whose closing zero byte its length does not count.
abbrev pub with_string : List ℕ → List ℕ → List ℕ
with_string bytes text = with_piece bytes (length_place bytes) (little_bytes 4 (length text))
    ++ text ++ 0 ∷ []

-- The bytes with a piece written over those from a place on.
abbrev pub overwritten : List ℕ → ℕ → List ℕ → List ℕ
overwritten bytes place piece = take place bytes ++ piece ++ drop (place + length piece) bytes
