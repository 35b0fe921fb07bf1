-- What the buffers of a record batch read as: the cells of its columns, by the meaning of validity,
-- offsets and data at whatever place in the body they lie (Arrow columnar format, "Buffer Listing
-- for Each Layout").
use Rattle.std.specs.Prelude.{ℕ, ◌+◌, ◌-◌, ◌*◌, ◌/◌, ◌%◌, Bool, true, ◌&&◌, ◌||◌, not, ◌==◌, nat_le}
use Rattle.std.specs.Prelude.{filter, nat_lt, Option, None, Some}
use Rattle.std.specs.Prelude.{int_le, ◌+ℤ◌, List, [], ◌∷◌, length, map, take, drop, ℤ, pos}
use Rattle.std.specs.Prelude.{unsigned_abs, count_by, slice_index, Result, Ok, if◌then◌else◌}
use Rattle.std.specs.Int.{Width, bit_at, byte_len, cast_signed}
use Rattle.std.specs.List.{list_all, range_with_len, slice_index_or}
use Rattle.std.specs.Ordering.{int_eq}
use Rattle.std.specs.Str.{is_utf8}
use Rattle.cell_model.specs.Kinds.{values_of}
use Rattle.cell_model.specs.Widths.{number_width, offset_width}
use Rattle.cell_model.specs.declared.cell.Cell.{Cell}
use Rattle.cell_model.specs.declared.cell.Cell.TheVariants.{Null, Num, Truth, Text, Blob}
use Rattle.cell_model.specs.declared.kind.Kind.{Kind}
use Rattle.cell_model.specs.declared.values.Values.{Values}
use Rattle.cell_model.specs.declared.values.Values.TheVariants.{Signed, Unsigned, Truths}
use Rattle.cell_model.specs.declared.values.Values.TheVariants.{Texts, Blobs, Strips}
use Rattle.arrow_spec.specs.Fields.{plain_field}
use Rattle.arrow_spec.specs.declared.fields.Encoding.{Encoding}
use Rattle.arrow_spec.specs.declared.fields.Field.{Field}
use Rattle.flat_read.specs.Reading.{number_from}
use Rattle.stream_spec.specs.Checks.{◌>>=◌, rule}
use Rattle.stream_spec.specs.declared.fault.Cause.{Cause}
use Rattle.stream_spec.specs.declared.fault.Cause.TheVariants as cause
use Rattle.stream_spec.specs.declared.message.BufferPlace.{BufferPlace}
use Rattle.stream_spec.specs.declared.message.FieldNode.{FieldNode}
use Rattle.stream_spec.specs.Metadata.{BatchTable}

-- ---- buffers

-- neither number is negative, and the buffer ends within the body
abbrev pub lies_in : List ℕ → BufferPlace → Bool
lies_in body buffer = int_le (pos 0) buffer.offset && int_le (pos 0) buffer.length
    && int_le (buffer.offset +ℤ buffer.length) (pos (length body))

-- the bytes of a buffer that lies in the body
abbrev pub bytes_of : List ℕ → BufferPlace → List ℕ
bytes_of body buffer = take (unsigned_abs buffer.length) (drop (unsigned_abs buffer.offset) body)

-- a bit of a bitmap, the least significant of each byte first
abbrev pub bit_of : List ℕ → ℕ → Bool
bit_of bitmap i = bit_at (slice_index bitmap (i / 8)) (i % 8) == 1

-- how many bytes a bitmap of so many bits needs
abbrev pub bitmap_length : ℕ → ℕ
bitmap_length bits = (bits + 7) / 8

-- how many buffers stand behind the validity
abbrev pub data_count : Values → ℕ
data_count (Signed width) = 1
data_count (Unsigned width) = 1
data_count Truths = 1
data_count (Texts width) = 2
data_count (Blobs width) = 2
data_count (Strips bytes) = 1

-- how many bytes each of these needs for so many rows; values of any length are told by their
-- offsets
abbrev pub data_needs : Values → ℕ → List ℕ
data_needs (Signed width) rows = rows * byte_len (number_width width) ∷ []
data_needs (Unsigned width) rows = rows * byte_len (number_width width) ∷ []
data_needs Truths rows = bitmap_length rows ∷ []
data_needs (Texts width) rows = (rows + 1) * byte_len (offset_width width) ∷ 0 ∷ []
data_needs (Blobs width) rows = (rows + 1) * byte_len (offset_width width) ∷ 0 ∷ []
data_needs (Strips bytes) rows = rows * bytes ∷ []

-- The buffer lies in the body and is long enough; for a batch without rows any length will do.
abbrev pub is_buffer : List ℕ → ℕ → ℕ → BufferPlace → Bool
is_buffer body rows need buffer = lies_in body buffer
    && (rows == 0 || nat_le need (unsigned_abs buffer.length))

abbrev pub are_buffers : List ℕ → ℕ → List ℕ → List BufferPlace → Bool
are_buffers body rows needs [] = true
are_buffers body rows [] (buffer ∷ buffers) = true
are_buffers body rows (need ∷ needs) (buffer ∷ buffers) = is_buffer body rows need buffer
    && are_buffers body rows needs buffers

-- A validity may have length 0, where no slot is null (Arrow columnar format, "Validity bitmaps").
abbrev pub is_validity : List ℕ → ℕ → BufferPlace → Bool
is_validity body rows buffer = lies_in body buffer
    && (unsigned_abs buffer.length == 0
    || (rows == 0 || nat_le (bitmap_length rows) (unsigned_abs buffer.length)))

-- ---- slots

-- the slot has a value
abbrev pub is_valid : List ℕ → ℕ → Bool
is_valid validity i = length validity == 0 || bit_of validity i

abbrev pub null_count_of : List ℕ → ℕ → ℕ
null_count_of validity rows = count_by (λ i. not (is_valid validity i)) (range_with_len 0 rows)

-- the bits of a number of a width, the lowest byte first
abbrev pub bits_from : List ℕ → Width → ℕ → ℕ
bits_from buffers width i = number_from buffers (i * byte_len width) (byte_len width)

-- an offset, a signed number of a width
abbrev pub offset_of : Width → List ℕ → ℕ → ℤ
offset_of width offsets i = cast_signed width (bits_from offsets width i)

-- The value between a slot's offset and the next (Arrow columnar format, "Variable-size Binary
-- Layout").
abbrev pub value_of : Width → List ℕ → List ℕ → ℕ → List ℕ
value_of width offsets values i =
    take (unsigned_abs (offset_of width offsets (i + 1)) - unsigned_abs (offset_of width offsets i))
    (drop (unsigned_abs (offset_of width offsets i)) values)

-- No offset is negative, none falls, and the last does not pass the values; for no rows none is
-- looked at.
abbrev pub are_offsets : Width → List ℕ → List ℕ → ℕ → Bool
are_offsets width offsets values rows =
    rows == 0
    || (int_le (pos 0) (offset_of width offsets 0)
    && list_all (λ i. int_le (offset_of width offsets i) (offset_of width offsets (i + 1)))
    (range_with_len 0 rows)
    && int_le (offset_of width offsets rows) (pos (length values)))

-- the offsets are lawful, where the values have any length
abbrev pub has_offsets : Values → List (List ℕ) → ℕ → Bool
has_offsets (Signed width) buffers rows = true
has_offsets (Unsigned width) buffers rows = true
has_offsets Truths buffers rows = true
has_offsets (Texts width) buffers rows = are_offsets (offset_width width)
    (slice_index_or buffers 0 []) (slice_index_or buffers 1 []) rows
has_offsets (Blobs width) buffers rows = are_offsets (offset_width width)
    (slice_index_or buffers 0 []) (slice_index_or buffers 1 []) rows
has_offsets (Strips bytes) buffers rows = true

-- the value in a slot
abbrev pub value_at : Values → List (List ℕ) → ℕ → Cell
value_at (Signed width) buffers i = Num (cast_signed (number_width width)
    (bits_from (slice_index_or buffers 0 []) (number_width width) i))
value_at (Unsigned width) buffers i = Num
    (pos (bits_from (slice_index_or buffers 0 []) (number_width width) i))
value_at Truths buffers i = Truth (bit_of (slice_index_or buffers 0 []) i)
value_at (Texts width) buffers i = Text
    (value_of (offset_width width) (slice_index_or buffers 0 []) (slice_index_or buffers 1 []) i)
value_at (Blobs width) buffers i = Blob
    (value_of (offset_width width) (slice_index_or buffers 0 []) (slice_index_or buffers 1 []) i)
value_at (Strips bytes) buffers i = Blob
    (take bytes (drop (i * bytes) (slice_index_or buffers 0 [])))

abbrev pub cell_at : Values → List ℕ → List (List ℕ) → ℕ → Cell
cell_at values validity buffers i = if is_valid validity i then value_at values buffers i else Null

abbrev pub cells_of : Values → List ℕ → List (List ℕ) → ℕ → List Cell
cells_of values validity buffers rows = map (cell_at values validity buffers)
    (range_with_len 0 rows)

-- a text is one in UTF-8
abbrev pub is_text : Cell → Bool
is_text Null = true
is_text (Num number) = true
is_text (Truth truth) = true
is_text (Text text) = is_utf8 text
is_text (Blob bytes) = true

-- ---- columns

-- The cells of a column of so many rows with this null count and these buffers, the validity first.
abbrev pub column_of : List ℕ → ℕ → Values → ℤ → BufferPlace → List BufferPlace
    → Result (List Cell) Cause
column_of body rows values nulls validity buffers = do
  inside ← rule cause.Buffer (is_validity body rows validity
      && are_buffers body rows (data_needs values rows) buffers)
  counted ← rule cause.NullCount (int_eq nulls (pos (null_count_of (bytes_of body validity) rows)))
  rising ← rule cause.Offsets (has_offsets values (map (bytes_of body) buffers) rows)
  encoded ← rule cause.Utf8 (list_all is_text
      (cells_of values (bytes_of body validity) (map (bytes_of body) buffers) rows))
  Ok (cells_of values (bytes_of body validity) (map (bytes_of body) buffers) rows)

-- ---- by dictionaries

-- A dictionary: its id, and its values as far as they are known.
pub record Dictionary : Type 0 where
  pub id : ℕ
  pub values : List Cell

-- the values of the dictionary with this id, as far as they are known
abbrev pub values_with : ℕ → List Dictionary → List Cell
values_with id [] = []
values_with id (first ∷ rest) = if first.id == id then first.values else values_with id rest

-- The dictionary with this id has these values from now on, and others keep theirs.
abbrev pub with_values : ℕ → List Cell → List Dictionary → List Dictionary
with_values id values dictionaries = record { id = id; values = values }
    ∷ filter (λ dictionary. not (dictionary.id == id)) dictionaries

-- what stands in the buffers of a field: its values or, where it is encoded, indices
abbrev pub stored_kind : Field → Kind
stored_kind field = elim field.encoding [
  | None ↦ field.column.kind
  | Some encoding ↦ encoding.indices
]

-- the number in a slot, if there is one
abbrev pub number_in : Cell → Option ℤ
number_in Null = None
number_in (Num number) = Some number
number_in (Truth truth) = None
number_in (Text text) = None
number_in (Blob bytes) = None

-- an index is the place of one of these values
abbrev pub is_place_in : List Cell → Cell → Bool
is_place_in values cell = elim (number_in cell) [
  | None ↦ true
  | Some index ↦ int_le (pos 0) index && nat_lt (unsigned_abs index) (length values)
]

-- the value that stands at an index; at a null stands none
abbrev pub value_told : List Cell → Cell → Cell
value_told values cell = elim (number_in cell) [
  | None ↦ Null
  | Some index ↦ slice_index_or values (unsigned_abs index) Null
]

-- The values that indices tell: each is the place of one (Arrow columnar format,
-- "Dictionary-encoded Layout").
abbrev pub values_told : List Cell → List Cell → Result (List Cell) Cause
values_told values indices = do
  inside ← rule cause.Dictionary (list_all (is_place_in values) indices)
  Ok (map (value_told values) indices)

-- the cells of a field, of which these are stored
abbrev pub cells_by : Option Encoding → List Dictionary → List Cell → Result (List Cell) Cause
cells_by None dictionaries stored = Ok stored
cells_by (Some encoding) dictionaries stored =
    values_told (values_with encoding.id dictionaries) stored

-- The cells of a field of so many rows with this null count and these buffers, the validity first.
abbrev pub field_cells : List ℕ → ℕ → List Dictionary → Field → ℤ → BufferPlace
    → List BufferPlace → Result (List Cell) Cause
field_cells body rows dictionaries field nulls validity buffers = do
  stored ← column_of body rows (values_of (stored_kind field)) nulls validity buffers
  cells_by field.encoding dictionaries stored

-- The columns, each with its node and its buffers.
abbrev pub columns_of : List ℕ → ℕ → List Dictionary → List Field → List FieldNode
    → List BufferPlace → Result (List (List Cell)) Cause
columns_of body rows dictionaries [] nodes buffers = Ok []
columns_of body rows dictionaries (field ∷ fields) [] buffers = Ok []
columns_of body rows dictionaries (field ∷ fields) (node ∷ nodes) [] = Ok []
columns_of body rows dictionaries (field ∷ fields) (node ∷ nodes) (validity ∷ buffers) = do
  cells ← field_cells body rows dictionaries field node.null_count validity
      (take (data_count (values_of (stored_kind field))) buffers)
  rest ← columns_of body rows dictionaries fields nodes
      (drop (data_count (values_of (stored_kind field))) buffers)
  Ok (cells ∷ rest)

-- how many buffers the columns have
abbrev pub buffer_count : List Field → ℕ
buffer_count [] = 0
buffer_count (field ∷ fields) = 1 + data_count (values_of (stored_kind field)) + buffer_count fields

-- The columns of a batch of these fields with this body: it has a node and the buffers of each, and
-- each node has as many slots as the batch has rows (IPC format, "RecordBatch message").
abbrev pub cells_in : List Dictionary → List Field → BatchTable → List ℕ
    → Result (List (List Cell)) Cause
cells_in dictionaries fields batch body = do
  nodes ← rule cause.Shape (length batch.nodes == length fields)
  buffers ← rule cause.Shape (length batch.buffers == buffer_count fields)
  slots ← rule cause.Shape (list_all (λ node. int_eq node.length (pos batch.rows)) batch.nodes)
  columns_of body batch.rows dictionaries fields batch.nodes batch.buffers

-- the row in a slot: a cell of each column
abbrev pub row_at : List (List Cell) → ℕ → List Cell
row_at columns i = map (λ cells. slice_index_or cells i Null) columns

-- The rows of a batch.
abbrev pub rows_of : List Dictionary → List Field → BatchTable → List ℕ
    → Result (List (List Cell)) Cause
rows_of dictionaries fields batch body = do
  cells ← cells_in dictionaries fields batch body
  Ok (map (row_at cells) (range_with_len 0 batch.rows))

-- a field of such values that is not encoded
abbrev pub values_field : Kind → Field
values_field kind = plain_field (record { name = []; kind = kind; nullable = true })

-- The values of a dictionary: a batch of one column of these (Arrow columnar format, "Dictionary
-- Messages").
abbrev pub values_in : Kind → BatchTable → List ℕ → Result (List Cell) Cause
values_in kind batch body = do
  cells ← cells_in [] (values_field kind ∷ []) batch body
  Ok (slice_index_or cells 0 [])
