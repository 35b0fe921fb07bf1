-- The one layout of a flatbuffer: where each object stands, and which bytes it has. Numbers are
-- little-endian. What tables, vtables, vectors, strings and references are is of the FlatBuffers
-- internals ("Offsets", "Tables", "Strings and Vectors"); the order of the objects and their places
-- are one choice among the many lawful ones.
use Rattle.std.specs.Prelude.{ℕ, ◌+◌, ◌-◌, ◌*◌, List, [], ◌∷◌, ◌++◌, map, length, take, drop}
use Rattle.std.specs.Prelude.{replicate, ℤ, flat_map}
use Rattle.std.specs.Int.{Width, w16, w32, w64, next_multiple_of, to_le_bytes}
use Rattle.arrow_spec.specs.Bytes.{number_bytes}

-- An object as it is laid: the place at which it stands, and the bytes that it adds, from the end
-- of what precedes it to the end of all that it refers to.
pub record Laid : Type 0 where
  pub place : ℕ
  pub bytes : List ℕ

-- An object is laid where what precedes it ends.
abbrev pub Object : Type 0
Object = ℕ → Laid

-- A field of a table: its place in the table with a number of a width or a reference to an object,
-- or no field.
pub data Field : Type 0 where
  number : ℕ → Width → ℕ → Field
  reference : ℕ → Object → Field
  absent : Field

-- a vtable's word for a field is its place in the table, and 0 where the field is absent
abbrev pub place_of : Field → ℕ
place_of (number place width value) = place
place_of (reference place object) = place
place_of absent = 0

-- a vtable and a table each begin at the least multiple of 8 that is not before the end of what
-- precedes
abbrev pub aligned : ℕ → ℕ
aligned end = next_multiple_of end 8

-- the length of a vector or a string stands at the least such place that is 4 past a multiple of 8
abbrev pub length_place : ℕ → ℕ
length_place end = next_multiple_of (end + 4) 8 - 4

-- gaps are zero
abbrev pub gap : ℕ → ℕ → List ℕ
gap end place = replicate (place - end) 0

-- the bytes with a piece over those from a place on
abbrev pub overwritten : List ℕ → ℕ → List ℕ → List ℕ
overwritten bytes place piece = take place bytes ++ piece ++ drop (place + length piece) bytes

-- The bytes of a table or vector that stands at `place`, each field over its bytes, and then what
-- the fields refer to, in their order, each object whole before the next; a reference is the
-- target's place minus its own (FlatBuffers internals, "Offsets").
abbrev pub with_fields : ℕ → List ℕ → List Field → List ℕ
with_fields place bytes [] = bytes
with_fields place bytes (number at width value ∷ fields) =
    with_fields place (overwritten bytes at (to_le_bytes width value)) fields
with_fields place bytes (reference at object ∷ fields) =
    let target = object (place + length bytes) in
    with_fields place (overwritten bytes at (to_le_bytes w32 (target.place - (place + at)))
    ++ target.bytes) fields
with_fields place bytes (absent ∷ fields) = with_fields place bytes fields

-- A vtable is 16-bit words: its own size, its table's size, and the place of each field in the
-- order of field numbers (FlatBuffers internals, "Tables").
abbrev pub vtable_of : ℕ → List Field → List ℕ
vtable_of size fields = flat_map (to_le_bytes w16)
    ((4 + 2 * length fields) ∷ size ∷ map place_of fields)

-- A table of so many bytes stands behind a vtable of its own, and its first word is its place minus
-- its vtable's place (FlatBuffers internals, "Tables").
abbrev pub table : ℕ → List Field → Object
table size fields end =
    let vtable = vtable_of size fields in
    let vtable_place = aligned end in
    let vtable_end = vtable_place + length vtable in
    let place = aligned vtable_end in
    record {
      place = place;
      bytes =
          gap end vtable_place ++ vtable ++ gap vtable_end place
          ++ with_fields place (replicate size 0) (number 0 w32 (place - vtable_place) ∷ fields);
    }

-- A vector of numbers or structs is its 32-bit length and its elements (FlatBuffers internals,
-- "Strings and Vectors").
abbrev pub vector : ℕ → List ℕ → Object
vector count elements end =
    record {
      place = length_place end;
      bytes = gap end (length_place end) ++ to_le_bytes w32 count ++ elements;
    }

-- A string is a vector of its bytes and a closing zero byte, which its length doesn't count
-- (FlatBuffers internals, "Strings and Vectors").
abbrev pub string : List ℕ → Object
string text = vector (length text) (text ++ 0 ∷ [])

-- A vector of structs that are two 64-bit numbers each (FlatBuffers internals, "Structs").
abbrev pub vector_of_pairs : List (ℤ × ℤ) → Object
vector_of_pairs pairs = vector (length pairs)
    (flat_map (λ pair. number_bytes w64 pair.0 ++ number_bytes w64 pair.1) pairs)

-- references to the objects, four bytes each, from this place in the vector on
abbrev pub references : ℕ → List Object → List Field
references at [] = []
references at (object ∷ objects) = reference at object ∷ references (at + 4) objects

-- A vector of tables is its 32-bit length and a reference to each, and the tables follow it in
-- order (FlatBuffers internals, "Strings and Vectors").
abbrev pub vector_of_tables : List Object → Object
vector_of_tables tables end =
    let place = length_place end in
    record {
      place = place;
      bytes =
          gap end place
          ++ with_fields place (replicate (4 + 4 * length tables) 0)
          (number 0 w32 (length tables) ∷ references 4 tables);
    }

-- A flatbuffer is the place of its root table in 32 bits, four zeros, and from place 8 on the root
-- table with all that it refers to (FlatBuffers internals, "Format components").
abbrev pub flatbuffer : Object → List ℕ
flatbuffer root = let laid = root 8 in to_le_bytes w32 laid.place ++ replicate 4 0 ++ laid.bytes
