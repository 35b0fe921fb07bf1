-- The metadata of Arrow's messages, as flatbuffers. Field numbers, places and the numbers of types
-- are those of the public schemas Message.fbs and Schema.fbs.
use Rattle.std.specs.Prelude.{ℕ, ◌^◌, ◌<◌, List, [], ◌∷◌, map, ℤ, Option, Some, None}
use Rattle.std.specs.Int.{w8, w16, w32, w64, from_bool}
use Rattle.cell_model.specs.declared.column.Column.{Column}
use Rattle.cell_model.specs.declared.kind.Kind.{Kind}
use Rattle.cell_model.specs.declared.kind.Kind.TheVariants as kind
use Rattle.arrow_spec.specs.declared.fields.Encoding.{Encoding}
use Rattle.arrow_spec.specs.declared.fields.Field.{Field}
use Rattle.arrow_spec.specs.declared.types.ArrowType.{ArrowType}
use Rattle.arrow_spec.specs.declared.types.ArrowType.TheVariants.{SignedInt, UnsignedInt, Date}
use Rattle.arrow_spec.specs.declared.types.ArrowType.TheVariants.{FixedSizeBinary, Plain}
use Rattle.arrow_spec.specs.Flatbuffers.{Object, number, reference, absent, table, string}
use Rattle.arrow_spec.specs.Flatbuffers.{vector_of_pairs, vector_of_tables, flatbuffer}

-- What a message is: a schema of these fields; a record batch of so many rows with its nodes and the
-- places of its buffers; or the dictionary with this id, whose values are a record batch of one
-- column (Message.fbs, "MessageHeader").
pub data Header : Type 0 where
  schema : List Field → Header
  record_batch : ℕ → List (ℤ × ℤ) → List (ℤ × ℤ) → Header
  dictionary_batch : ℕ → ℕ → List (ℤ × ℤ) → List (ℤ × ℤ) → Header

-- The table of types: that of each kind's values. Binary has the number 4, Utf8 5, Bool 6,
-- LargeBinary 19 and LargeUtf8 20; a date's unit of days is 0.
abbrev pub type_of : Kind → ArrowType
type_of kind.I8 = SignedInt 8
type_of kind.I16 = SignedInt 16
type_of kind.I32 = SignedInt 32
type_of kind.I64 = SignedInt 64
type_of kind.U8 = UnsignedInt 8
type_of kind.U16 = UnsignedInt 16
type_of kind.U32 = UnsignedInt 32
type_of kind.U64 = UnsignedInt 64
type_of kind.Bool = Plain 6
type_of kind.Utf8 = Plain 5
type_of kind.Binary = Plain 4
type_of kind.LargeUtf8 = Plain 20
type_of kind.LargeBinary = Plain 19
type_of (kind.Fixed bytes) = FixedSizeBinary bytes
type_of kind.Date = Date 0

-- Int: bit_width, is_signed.
abbrev pub int_table : ℕ → ℕ → Object
int_table bit_width is_signed = table 9 (number 4 w32 bit_width ∷ number 8 w8 is_signed ∷ [])

-- FixedSizeBinary: byte_width.
abbrev pub fixed_table : ℕ → Object
fixed_table byte_width = table 8 (number 4 w32 byte_width ∷ [])

-- Date: unit (days are 0).
abbrev pub date_table : ℕ → Object
date_table unit = table 6 (number 4 w16 unit ∷ [])

-- Other types have no fields.
abbrev pub empty_table : Object
empty_table = table 4 []

-- the table of a type
abbrev pub table_of_type : ArrowType → Object
table_of_type (SignedInt bits) = int_table bits 1
table_of_type (UnsignedInt bits) = int_table bits 0
table_of_type (FixedSizeBinary bytes) = fixed_table bytes
table_of_type (Date unit) = date_table unit
table_of_type (Plain id) = empty_table

-- the number of a type in the union of types: Int 2, Date 8, FixedSizeBinary 15
abbrev pub number_of_type : ArrowType → ℕ
number_of_type (SignedInt bits) = 2
number_of_type (UnsignedInt bits) = 2
number_of_type (FixedSizeBinary bytes) = 15
number_of_type (Date unit) = 8
number_of_type (Plain id) = id

-- each number of the type fits its field of the metadata
abbrev pub FitsFields : ArrowType → Type 0
FitsFields (SignedInt bits) = bits < 2 ^ 32
FitsFields (UnsignedInt bits) = bits < 2 ^ 32
FitsFields (FixedSizeBinary bytes) = bytes < 2 ^ 32
FitsFields (Date unit) = unit < 2 ^ 16
FitsFields (Plain id) = id < 2 ^ 8

-- DictionaryEncoding: id, indexType (an Int), isOrdered (false).
abbrev pub encoding_table : Encoding → Object
encoding_table encoding =
    table 17
    (number 8 w64 encoding.id
    ∷ reference 4 (table_of_type (type_of encoding.indices))
    ∷ number 16 w8 0
    ∷ [])

-- Field: name, nullable, type_type, type, dictionary (absent where the column is not encoded),
-- children (none).
abbrev pub field_table_of : Column → Option Encoding → Object
field_table_of column None =
    table 18
    (reference 4 (string column.name)
    ∷ number 16 w8 (from_bool column.nullable)
    ∷ number 17 w8 (number_of_type (type_of column.kind))
    ∷ reference 8 (table_of_type (type_of column.kind))
    ∷ absent
    ∷ reference 12 (vector_of_tables [])
    ∷ [])
field_table_of column (Some encoding) =
    table 22
    (reference 4 (string column.name)
    ∷ number 20 w8 (from_bool column.nullable)
    ∷ number 21 w8 (number_of_type (type_of column.kind))
    ∷ reference 8 (table_of_type (type_of column.kind))
    ∷ reference 12 (encoding_table encoding)
    ∷ reference 16 (vector_of_tables [])
    ∷ [])

abbrev pub field_table : Field → Object
field_table field = field_table_of field.column field.encoding

-- Schema: endianness (Little, 0), fields.
abbrev pub schema_table : List Field → Object
schema_table fields = table 10
    (number 8 w16 0 ∷ reference 4 (vector_of_tables (map field_table fields)) ∷ [])

-- RecordBatch: length, nodes, buffers.
abbrev pub record_batch_table : ℕ → List (ℤ × ℤ) → List (ℤ × ℤ) → Object
record_batch_table rows nodes buffers =
    table 20 (number 8 w64 rows ∷ reference 4 (vector_of_pairs nodes) ∷ reference 16
    (vector_of_pairs buffers) ∷ [])

-- DictionaryBatch: id, data, isDelta (false).
abbrev pub dictionary_batch_table : ℕ → ℕ → List (ℤ × ℤ) → List (ℤ × ℤ) → Object
dictionary_batch_table id rows nodes buffers =
    table 17
    (number 8 w64 id
    ∷ reference 4 (record_batch_table rows nodes buffers)
    ∷ number 16 w8 0
    ∷ [])

-- the table of a message's header
abbrev pub header_table : Header → Object
header_table (schema fields) = schema_table fields
header_table (record_batch rows nodes buffers) = record_batch_table rows nodes buffers
header_table (dictionary_batch id rows nodes buffers) = dictionary_batch_table id rows nodes buffers

-- the number of a header in the union of headers: Schema 1, DictionaryBatch 2, RecordBatch 3
abbrev pub header_number : Header → ℕ
header_number (schema fields) = 1
header_number (record_batch rows nodes buffers) = 3
header_number (dictionary_batch id rows nodes buffers) = 2

-- Message: version (V5, 4), header_type, header, bodyLength.
abbrev pub message_table : Header → ℕ → Object
message_table header body_length =
    table 20
    (number 16 w16 4
    ∷ number 18 w8 (header_number header)
    ∷ reference 4 (header_table header)
    ∷ number 8 w64 body_length
    ∷ [])

-- The flatbuffer of a message with this header and a body of so many bytes.
abbrev pub flatbuffer_of : Header → ℕ → List ℕ
flatbuffer_of header body_length = flatbuffer (message_table header body_length)
