-- What a column keeps of its cells: whether each is valid, and a value, which of a null is zero,
-- false, no bytes, or zeros where all values have equally many.
use Rattle.std.specs.Prelude.{◌≡◌, ℕ, ◌*◌, Bool, true, false, not, if◌then◌else◌, List, [], ◌∷◌}
use Rattle.std.specs.Prelude.{length, slice_index_or, map, All, IsTrue, ◌||◌, ◌&&◌, nat_le}
use Rattle.std.specs.Int.{byte_len}
use Rattle.cell_model.specs.declared.cell.Cell.{Cell}
use Rattle.cell_model.specs.declared.cell.Cell.TheVariants.{Null, Num, Truth, Text, Blob}
use Rattle.cell_model.specs.declared.column.Column.{Column}
use Rattle.cell_model.specs.declared.kind.Kind.{Kind}
use Rattle.cell_model.specs.declared.values.Values.{Values}
use Rattle.cell_model.specs.declared.values.Values.TheVariants.{Signed, Unsigned, Truths}
use Rattle.cell_model.specs.declared.values.Values.TheVariants.{Texts, Blobs, Strips}
use Rattle.cell_model.specs.Kinds.{values_of}
use Rattle.cell_model.specs.Widths.{number_width}
use Rattle.cell_model.specs.Values.{is_null, is_value_of, byte_length, most_bytes_of}
use Rattle.arrow_spec.specs.Arrays.{number_of, truth_of, value_of, strip_of}
use Rattle.block_columns.specs.declared.store.Store.{Store}
use Rattle.block_columns.specs.declared.store.Store.TheVariants as store

-- A column of a block: what its cells have to keep, and its cells, of slot 0 first.
pub record ColumnValue : Type 0 where
  pub column : Column
  pub cells : List Cell

-- a null, or a value of the kind that is not too long
abbrev pub IsSlotOf : Kind → Cell → Type 0
IsSlotOf kind cell = IsTrue (is_null cell
    || (is_value_of kind cell && nat_le (byte_length cell) (most_bytes_of kind)))

-- bytes as a cell of a kind
abbrev pub bytes_in : Values → List ℕ → Cell
bytes_in (Signed width) bytes = Blob bytes
bytes_in (Unsigned width) bytes = Blob bytes
bytes_in Truths bytes = Blob bytes
bytes_in (Texts width) bytes = Text bytes
bytes_in (Blobs width) bytes = Blob bytes
bytes_in (Strips width) bytes = Blob bytes

-- what is stored as cells, as if none were null
abbrev pub full_cells : Kind → Store → List Cell
full_cells kind (store.Numbers numbers) = map Num numbers.values
full_cells kind (store.Truths bits) = map Truth bits
full_cells kind (store.Values values) = map (bytes_in (values_of kind)) values.items
full_cells kind (store.Strips strips) = map (bytes_in (values_of kind)) strips.values

-- cells of which those without a valid bit are null
abbrev pub masked : List Bool → List Cell → List Cell
masked [] cells = []
masked (bit ∷ bits) [] = []
masked (bit ∷ bits) (cell ∷ cells) = (if bit then cell else Null) ∷ masked bits cells

-- the cells that a column keeps
abbrev pub cells_in : Kind → List Bool → Store → List Cell
cells_in kind valid kept = masked valid (full_cells kind kept)

-- numbers of this width and sign are a kind's
abbrev pub AreNumbers : Values → ℕ → Bool → Type 0
AreNumbers (Signed width) bits sign = (bits ≡ 8 * byte_len (number_width width)) × (sign ≡ true)
AreNumbers (Unsigned width) bits sign = (bits ≡ 8 * byte_len (number_width width)) × (sign ≡ false)
AreNumbers Truths bits sign = ⊥
AreNumbers (Texts width) bits sign = ⊥
AreNumbers (Blobs width) bits sign = ⊥
AreNumbers (Strips width) bits sign = ⊥

abbrev pub AreTruths : Values → Type 0
AreTruths (Signed width) = ⊥
AreTruths (Unsigned width) = ⊥
AreTruths Truths = Unit {0}
AreTruths (Texts width) = ⊥
AreTruths (Blobs width) = ⊥
AreTruths (Strips width) = ⊥

-- values of any length are a kind's
abbrev pub AreBytes : Values → Type 0
AreBytes (Signed width) = ⊥
AreBytes (Unsigned width) = ⊥
AreBytes Truths = ⊥
AreBytes (Texts width) = Unit {0}
AreBytes (Blobs width) = Unit {0}
AreBytes (Strips width) = ⊥

-- values of so many bytes each are a kind's
abbrev pub AreStrips : Values → ℕ → Type 0
AreStrips (Signed width) bytes = ⊥
AreStrips (Unsigned width) bytes = ⊥
AreStrips Truths bytes = ⊥
AreStrips (Texts width) bytes = ⊥
AreStrips (Blobs width) bytes = ⊥
AreStrips (Strips width) bytes = bytes ≡ width

-- what is stored is the kind's
abbrev pub IsStoreOf : Kind → Store → Type 0
IsStoreOf kind (store.Numbers numbers) = AreNumbers (values_of kind) numbers.width numbers.signed
IsStoreOf kind (store.Truths bits) = AreTruths (values_of kind)
IsStoreOf kind (store.Values values) = AreBytes (values_of kind)
IsStoreOf kind (store.Strips strips) = AreStrips (values_of kind) strips.width

-- The values of cells: numbers, bits or bytes one after another, and zero, false or nothing for a
-- null, or zeros where all values have equally many bytes.
abbrev pub Stores : Store → List Cell → Type 0
Stores (store.Numbers numbers) cells = numbers.values ≡ map number_of cells
Stores (store.Truths bits) cells = bits ≡ map truth_of cells
Stores (store.Values values) cells = values.items ≡ map value_of cells
Stores (store.Strips strips) cells = strips.values ≡ map (strip_of strips.width) cells

-- how many values are stored
abbrev pub stored_length : Store → ℕ
stored_length (store.Numbers numbers) = length numbers.values
stored_length (store.Truths bits) = length bits
stored_length (store.Values values) = length values.items
stored_length (store.Strips strips) = length strips.values

-- the bytes of their own that a value of any length has at a place; no other has some
abbrev pub bytes_at : Store → ℕ → List ℕ
bytes_at (store.Numbers numbers) at = []
bytes_at (store.Truths bits) at = []
bytes_at (store.Values values) at = slice_index_or values.items at []
bytes_at (store.Strips strips) at = []

-- the bytes of their own that a cell's value has in a column of these values
abbrev pub own_bytes : Values → Cell → List ℕ
own_bytes (Signed width) cell = []
own_bytes (Unsigned width) cell = []
own_bytes Truths cell = []
own_bytes (Texts width) cell = value_of cell
own_bytes (Blobs width) cell = value_of cell
own_bytes (Strips width) cell = []

abbrev pub valid_bit : Cell → Bool
valid_bit cell = not (is_null cell)

-- no number of this width and sign is stored
abbrev pub StoresNone : ℕ → Bool → Store → Type 0
StoresNone bits sign (store.Numbers numbers) = (numbers.width ≡ bits) × (numbers.signed ≡ sign)
    × (numbers.values ≡ [])
StoresNone bits sign (store.Truths flags) = ⊥
StoresNone bits sign (store.Values items) = ⊥
StoresNone bits sign (store.Strips strips) = ⊥

-- A column keeps these cells.
pub record Keeps (kind : Kind) (valid : List Bool) (kept : Store) (cells : List Cell) : Type 0 where
  pub bits : valid ≡ map valid_bit cells
  pub known : IsStoreOf kind kept
  pub stored : Stores kept cells
  pub each : All (IsSlotOf kind) cells
