-- The dictionary of a column's values, and where in it the value of each cell stands (Arrow columnar
-- format, "Dictionary-encoded Layout").
use Rattle.std.specs.Prelude.{ℕ, suc, Bool, true, false, if◌then◌else◌, List, [], ◌∷◌, map}
use Rattle.std.specs.Prelude.{bytes_eq, pos}
use Rattle.std.specs.BTreeSet.{insert_key}
use Rattle.std.specs.Cmp.Lexicographic.{slice_cmp}
use Rattle.std.specs.Ordering.{nat_cmp}
use Rattle.arrow_spec.specs.Arrays.{value_of}
use Rattle.cell_model.specs.Kinds.{values_of}
use Rattle.cell_model.specs.Values.{is_null}
use Rattle.cell_model.specs.declared.cell.Cell.{Cell}
use Rattle.cell_model.specs.declared.cell.Cell.TheVariants.{Null, Num, Text, Blob}
use Rattle.cell_model.specs.declared.kind.Kind.{Kind}
use Rattle.cell_model.specs.declared.values.Values.{Values}
use Rattle.cell_model.specs.declared.values.Values.TheVariants.{Signed, Unsigned, Truths}
use Rattle.cell_model.specs.declared.values.Values.TheVariants.{Texts, Blobs, Strips}
use Rattle.cell_model.specs.declared.width.OffsetWidth.{OffsetWidth}
use Rattle.cell_model.specs.declared.width.OffsetWidth.TheVariants as offset

-- texts and bytes between offsets of this width are encoded: those of 32 bits
abbrev pub are_encoded_between : OffsetWidth → Bool
are_encoded_between offset.Bits32 = true
are_encoded_between offset.Bits64 = false

-- such values are encoded by a dictionary; those of the other sorts stay as they are
abbrev pub are_encoded : Values → Bool
are_encoded (Signed width) = false
are_encoded (Unsigned width) = false
are_encoded Truths = false
are_encoded (Texts width) = are_encoded_between width
are_encoded (Blobs width) = are_encoded_between width
are_encoded (Strips bytes) = false

-- a column of this kind is encoded: utf8 and binary are
abbrev pub is_encoded : Kind → Bool
is_encoded kind = are_encoded (values_of kind)

-- ascending values, each once, with a cell's value at its place; a null has none
abbrev pub with_cell : Cell → List (List ℕ) → List (List ℕ)
with_cell cell values = if is_null cell then values
    else insert_key (slice_cmp nat_cmp) values (value_of cell)

-- The dictionary of cells: their values, each once, in the order of their bytes.
abbrev pub dictionary_of : List Cell → List (List ℕ)
dictionary_of [] = []
dictionary_of (cell ∷ cells) = with_cell cell (dictionary_of cells)

-- bytes as a cell of such values: a text among texts
abbrev pub value_cell : Values → List ℕ → Cell
value_cell (Signed width) bytes = Blob bytes
value_cell (Unsigned width) bytes = Blob bytes
value_cell Truths bytes = Blob bytes
value_cell (Texts width) bytes = Text bytes
value_cell (Blobs width) bytes = Blob bytes
value_cell (Strips width) bytes = Blob bytes

-- the dictionary of cells of a kind, as cells of that kind
abbrev pub dictionary_cells : Kind → List Cell → List Cell
dictionary_cells kind cells = map (value_cell (values_of kind)) (dictionary_of cells)

-- the first place at which a value stands; behind all where it does not
abbrev pub place_in : List (List ℕ) → List ℕ → ℕ
place_in [] value = 0
place_in (first ∷ rest) value = if bytes_eq first value then 0 else suc (place_in rest value)

-- a cell's index: where its value stands in a dictionary; null stays null
abbrev pub index_in : List (List ℕ) → Cell → Cell
index_in values cell = if is_null cell then Null else Num (pos (place_in values (value_of cell)))

-- the indices of cells in their dictionary
abbrev pub index_cells : List Cell → List Cell
index_cells cells = map (index_in (dictionary_of cells)) cells
