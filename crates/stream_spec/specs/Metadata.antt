-- What a message's metadata denotes, wherever its objects stand: references are followed from the
-- root, and a field that is absent has its default. Field numbers and the numbers of types are
-- those of the public schemas Message.fbs and Schema.fbs; how a table, a vtable, a vector and a
-- string are read is of the FlatBuffers internals.
use Rattle.std.specs.Prelude.{ℕ, ◌+◌, ◌*◌, ◌^◌, Bool, false, ◌||◌, not, ◌==◌, nat_lt}
use Rattle.std.specs.Prelude.{true, List, [], ◌∷◌, ◌++◌, map, find, ℤ, if◌then◌else◌, Option, None}
use Rattle.std.specs.Prelude.{Some, is_some, Result, Ok}
use Rattle.std.specs.Int.{w64, cast_signed}
use Rattle.std.specs.List.{list_all, range_with_len}
use Rattle.std.specs.Str.{is_utf8}
use Rattle.cell_model.specs.Kinds.{kinds}
use Rattle.cell_model.specs.Widths.{is_byte_width}
use Rattle.cell_model.specs.declared.kind.Kind.{Kind}
use Rattle.cell_model.specs.declared.kind.Kind.TheVariants.{Fixed}
use Rattle.arrow_spec.specs.Metadata.{type_of}
use Rattle.arrow_spec.specs.declared.fields.Encoding.{Encoding}
use Rattle.arrow_spec.specs.declared.fields.Field.{Field}
use Rattle.arrow_spec.specs.declared.types.ArrowType.{ArrowType}
use Rattle.arrow_spec.specs.declared.types.ArrowType.TheVariants.{SignedInt, UnsignedInt, Date}
use Rattle.arrow_spec.specs.declared.types.ArrowType.TheVariants.{FixedSizeBinary, Plain}
use Rattle.flat_read.specs.Reading.{field_at, number_at, number_from, target_at, text_at, vector_at}
use Rattle.flat_read.specs.declared.FlatFault.{FlatFault}
use Rattle.stream_spec.specs.Checks.{◌>>=◌, fault_as, or_fault, rule}
use Rattle.stream_spec.specs.declared.fault.MetaFault.{MetaFault}
use Rattle.stream_spec.specs.declared.message.BufferPlace.{BufferPlace}
use Rattle.stream_spec.specs.declared.message.DictionaryHead.{DictionaryHead}
use Rattle.stream_spec.specs.declared.message.DictionaryTable.{DictionaryTable}
use Rattle.stream_spec.specs.declared.message.Elements.{Elements}
use Rattle.stream_spec.specs.declared.message.EncodingTable.{EncodingTable}
use Rattle.stream_spec.specs.declared.message.FieldKind.{FieldKind}
use Rattle.stream_spec.specs.declared.message.FieldNode.{FieldNode}
use Rattle.stream_spec.specs.declared.message.Head.{Head}
use Rattle.stream_spec.specs.declared.message.HeadKind.{HeadKind}
use Rattle.stream_spec.specs.declared.message.HeadKind.TheVariants as head
use Rattle.stream_spec.specs.declared.message.MessageTable.{MessageTable}
use Rattle.stream_spec.specs.declared.message.SchemaTable.{SchemaTable}
use Rattle.stream_spec.specs.declared.fault.MetaFault.TheVariants as fault

-- ---- fields of a table

-- a number of so many bytes, where the field is there, else this one
abbrev pub number_or : List ℕ → ℕ → ℕ → Option ℕ → Result ℕ FlatFault
number_or bytes width default None = Ok default
number_or bytes width default (Some place) = number_at bytes place width

-- the number in a table's field; an absent one is 0
abbrev pub scalar : List ℕ → ℕ → ℕ → ℕ → Result ℕ FlatFault
scalar bytes table index width = do
  place ← field_at bytes table index
  number_or bytes width 0 place

-- where a field's reference leads, where it is there
abbrev pub target_of : List ℕ → Option ℕ → Result (Option ℕ) FlatFault
target_of bytes None = Ok None
target_of bytes (Some place) = do
  target ← target_at bytes place
  Ok (Some target)

abbrev pub reference : List ℕ → ℕ → ℕ → Result (Option ℕ) FlatFault
reference bytes table index = do
  place ← field_at bytes table index
  target_of bytes place

-- the elements of a vector; an absent vector has none
abbrev pub elements_of : List ℕ → ℕ → Option ℕ → Result Elements FlatFault
elements_of bytes width None = Ok (record { first = 0; count = 0 })
elements_of bytes width (Some place) = do
  vector ← vector_at bytes place width
  Ok (record { first = vector.0; count = vector.1 })

abbrev pub elements : List ℕ → ℕ → ℕ → ℕ → Result Elements FlatFault
elements bytes table index width = do
  place ← reference bytes table index
  elements_of bytes width place

-- a field's text; an absent one is empty
abbrev pub text_or_empty : List ℕ → Option ℕ → Result (List ℕ) FlatFault
text_or_empty bytes None = Ok []
text_or_empty bytes (Some place) = text_at bytes place

abbrev pub text : List ℕ → ℕ → ℕ → Result (List ℕ) FlatFault
text bytes table index = do
  place ← reference bytes table index
  text_or_empty bytes place

-- a signed number of 64 bits
abbrev pub signed_from : List ℕ → ℕ → ℤ
signed_from bytes place = cast_signed w64 (number_from bytes place 8)

-- an unsigned reading of a negative number of 64 bits
abbrev pub is_negative : ℕ → Bool
is_negative number = not (nat_lt number (2 ^ 63))

-- ---- the message

-- a Message table: version (16 bits), header_type (8 bits), header (a reference), bodyLength (64
-- bits)
abbrev pub message_table_at : List ℕ → Result MessageTable FlatFault
message_table_at bytes = do
  root ← target_at bytes 0
  version ← scalar bytes root 0 2
  header_type ← scalar bytes root 1 1
  header ← reference bytes root 2
  body ← scalar bytes root 3 8
  Ok (record { version = version; header_type = header_type; header = header; body = body })

-- what the number of a message's header says: Schema 1, DictionaryBatch 2, RecordBatch 3; none of
-- others
abbrev pub kind_of_header : ℕ → Option HeadKind
kind_of_header number =
    if number == 1 then Some head.Schema
    else if number == 2 then Some head.Dictionary
    else if number == 3 then Some head.Batch
    else None

-- The head of a message with this metadata: V4 (3) or V5 (4), and a schema, a dictionary or a
-- record batch (Message.fbs, "Message" and "MessageHeader").
abbrev pub head_of : List ℕ → Result Head MetaFault
head_of bytes = do
  message ← fault_as fault.Flat (message_table_at bytes)
  version ← rule fault.Version (message.version == 3 || message.version == 4)
  kind ← or_fault fault.Kind (kind_of_header message.header_type)
  header ← or_fault fault.Shape message.header
  body ← rule fault.Shape (not (is_negative message.body))
  Ok (record { kind = kind; header = header; body = message.body })

-- ---- a schema

-- A Field table: name (a string), nullable (a byte), type_type (8 bits), type (a reference),
-- dictionary (a table), children (a vector of tables); and what the table of its type says.
pub record FieldTable : Type 0 where
  pub name : List ℕ
  pub nullable : Bool
  pub type_place : Option ℕ
  pub encoding : Option EncodingTable
  pub children : ℕ
  pub type' : ArrowType

-- an Int table: bitWidth (32 bits), is_signed (a byte); an absent table says 0 and false
abbrev pub int_type : List ℕ → Option ℕ → Result ArrowType FlatFault
int_type bytes None = Ok (UnsignedInt 0)
int_type bytes (Some table) = do
  bits ← scalar bytes table 0 4
  is_signed ← scalar bytes table 1 1
  Ok (if is_signed == 0 then UnsignedInt bits else SignedInt bits)

-- a FixedSizeBinary table: byteWidth (32 bits); an absent table says 0
abbrev pub fixed_type : List ℕ → Option ℕ → Result ArrowType FlatFault
fixed_type bytes None = Ok (FixedSizeBinary 0)
fixed_type bytes (Some table) = do
  byte_width ← scalar bytes table 0 4
  Ok (FixedSizeBinary byte_width)

-- a Date table: unit (16 bits); an absent unit, and an absent table, says milliseconds (1)
abbrev pub date_type : List ℕ → Option ℕ → Result ArrowType FlatFault
date_type bytes None = Ok (Date 1)
date_type bytes (Some table) = do
  place ← field_at bytes table 0
  unit ← number_or bytes 2 1 place
  Ok (Date unit)

-- what the table of a type says, by the type's number; other types have no fields, and their
-- references are not followed (Schema.fbs, "Type")
abbrev pub type_at : List ℕ → ℕ → Option ℕ → Result ArrowType FlatFault
type_at bytes number place =
    if number == 2 then target_of bytes place >>= int_type bytes
    else if number == 8 then target_of bytes place >>= date_type bytes
    else if number == 15 then target_of bytes place >>= fixed_type bytes
    else Ok (Plain number)

-- the type of the indices; an absent one is an Int of 32 bits with a sign
abbrev pub index_type : List ℕ → Option ℕ → Result ArrowType FlatFault
index_type bytes None = Ok (SignedInt 32)
index_type bytes (Some table) = int_type bytes (Some table)

-- a DictionaryEncoding table: id (64 bits), indexType (an Int table)
abbrev pub encoding_table_at : List ℕ → Option ℕ → Result (Option EncodingTable) FlatFault
encoding_table_at bytes None = Ok None
encoding_table_at bytes (Some table) = do
  id ← scalar bytes table 0 8
  place ← reference bytes table 1
  indices ← index_type bytes place
  Ok (Some (record { id = id; indices = indices }))

abbrev pub field_table_at : List ℕ → ℕ → Result FieldTable FlatFault
field_table_at bytes table = do
  name ← text bytes table 0
  nullable ← scalar bytes table 1 1
  type_type ← scalar bytes table 2 1
  type_place ← field_at bytes table 3
  dictionary ← reference bytes table 4
  children ← elements bytes table 5 4
  type' ← type_at bytes type_type type_place
  encoding ← encoding_table_at bytes dictionary
  Ok (record {
    name = name;
    nullable = not (nullable == 0);
    type_place = type_place;
    encoding = encoding;
    children = children.count;
    type' = type';
  })

-- the types are one and the same
abbrev pub is_type : ArrowType → ArrowType → Bool
is_type (SignedInt bits) (SignedInt others) = bits == others
is_type (UnsignedInt bits) (UnsignedInt others) = bits == others
is_type (FixedSizeBinary bytes) (FixedSizeBinary others) = bytes == others
is_type (Date unit) (Date other) = unit == other
is_type (Plain number) (Plain other) = number == other
is_type _ _ = false

-- among which kinds the kind of a type is: those with a name of their own, or that of so many bytes
-- each, of which there is one for each width
abbrev pub kinds_like : ArrowType → List Kind
kinds_like (SignedInt bits) = kinds
kinds_like (UnsignedInt bits) = kinds
kinds_like (FixedSizeBinary bytes) = if is_byte_width bytes then Fixed bytes ∷ [] else []
kinds_like (Date unit) = kinds
kinds_like (Plain number) = kinds

-- the kind whose type this is
abbrev pub kind_of_type : ArrowType → Option Kind
kind_of_type type' = find (λ kind. is_type (type_of kind) type') (kinds_like type')

-- how a field is encoded, if it is: the indices are integers of a width that there is
abbrev pub encoding_of : Option EncodingTable → Result (Option Encoding) MetaFault
encoding_of None = Ok None
encoding_of (Some table) = do
  indices ← or_fault fault.Kind (kind_of_type table.indices)
  Ok (Some (record { id = table.id; indices = indices }))

-- the field has not this dictionary, or its values are of this kind
abbrev pub agrees : ℕ → Kind → Field → Bool
agrees id kind field = elim field.encoding [
  | None ↦ true
  | Some encoding ↦ not (encoding.id == id) || is_type (type_of field.column.kind) (type_of kind)
]

-- no field before one has its dictionary and values of another kind
abbrev pub all_agree : List Field → Kind → Option Encoding → Bool
all_agree before kind None = true
all_agree before kind (Some encoding) = list_all (agrees encoding.id kind) before

-- What a field is, behind these: its name is a text, its type and that of its indices are some that
-- are read, its dictionary has one kind of values, and it has no children (Schema.fbs, "Field").
abbrev pub kind_of_field : List Field → FieldTable → Result FieldKind MetaFault
kind_of_field before field = do
  name ← rule fault.Utf8 (is_utf8 field.name)
  kind ← or_fault fault.Kind (kind_of_type field.type')
  encoding ← encoding_of field.encoding
  one_kind ← rule fault.Dictionary (all_agree before kind encoding)
  type_place ← rule fault.Shape (is_some field.type_place)
  childless ← rule fault.Shape (field.children == 0)
  Ok (record { kind = kind; encoding = encoding })

-- the field whose reference stands at a place, behind these
abbrev pub schema_field_at : List ℕ → List Field → ℕ → Result Field MetaFault
schema_field_at bytes before place = do
  table ← fault_as fault.Flat (target_at bytes place)
  field ← fault_as fault.Flat (field_table_at bytes table)
  judged ← kind_of_field before field
  Ok (record {
    column = record { name = field.name; kind = judged.kind; nullable = field.nullable };
    encoding = judged.encoding;
  })

-- these fields, and behind them those whose references stand at places
abbrev pub fields_behind : List ℕ → List Field → List ℕ → Result (List Field) MetaFault
fields_behind bytes before [] = Ok before
fields_behind bytes before (place ∷ places) = do
  field ← schema_field_at bytes before place
  fields_behind bytes (before ++ field ∷ []) places

-- the places of so many elements of a width
abbrev pub places_of : Elements → ℕ → List ℕ
places_of elements width = map (λ i. elements.first + width * i) (range_with_len 0 elements.count)

-- a Schema table: endianness (16 bits), fields (a vector of tables)
abbrev pub schema_table_at : List ℕ → ℕ → Result SchemaTable FlatFault
schema_table_at bytes table = do
  endianness ← scalar bytes table 0 2
  fields ← elements bytes table 1 4
  Ok (record { endianness = endianness; fields = fields })

-- The fields of a schema: numbers are little-endian, and there is a field (Schema.fbs, "Schema" and
-- "Endianness").
abbrev pub fields_at : List ℕ → ℕ → Result (List Field) MetaFault
fields_at bytes table = do
  schema ← fault_as fault.Flat (schema_table_at bytes table)
  endian ← rule fault.Endian (schema.endianness == 0)
  some ← rule fault.Shape (not (schema.fields.count == 0))
  fields_behind bytes [] (places_of schema.fields 4)

-- ---- a record batch

-- A record batch as its metadata has it: how many rows, a node for each column, where each buffer
-- lies in the body, and whether it is compressed (Message.fbs, "RecordBatch").
pub record BatchTable : Type 0 where
  pub rows : ℕ
  pub nodes : List FieldNode
  pub buffers : List BufferPlace
  pub compressed : Bool

abbrev pub node_at : List ℕ → ℕ → FieldNode
node_at bytes place = record {
  length = signed_from bytes place;
  null_count = signed_from bytes (place + 8);
}

abbrev pub buffer_at : List ℕ → ℕ → BufferPlace
buffer_at bytes place = record {
  offset = signed_from bytes place;
  length = signed_from bytes (place + 8);
}

-- a RecordBatch table: length (64 bits), nodes and buffers (vectors of structs), compression (a
-- reference)
abbrev pub batch_table_at : List ℕ → ℕ → Result BatchTable FlatFault
batch_table_at bytes table = do
  rows ← scalar bytes table 0 8
  nodes ← elements bytes table 1 16
  buffers ← elements bytes table 2 16
  compression ← field_at bytes table 3
  Ok (record {
    rows = rows;
    nodes = map (node_at bytes) (places_of nodes 16);
    buffers = map (buffer_at bytes) (places_of buffers 16);
    compressed = is_some compression;
  })

-- The batch: it is not compressed, and its length is not negative.
abbrev pub batch_at : List ℕ → ℕ → Result BatchTable MetaFault
batch_at bytes table = do
  batch ← fault_as fault.Flat (batch_table_at bytes table)
  plain ← rule fault.Compressed (not batch.compressed)
  rows ← rule fault.Shape (not (is_negative batch.rows))
  Ok batch

-- ---- a dictionary

-- a DictionaryBatch table: id (64 bits), data (a RecordBatch table), isDelta (a byte)
abbrev pub dictionary_table_at : List ℕ → ℕ → Result DictionaryTable FlatFault
dictionary_table_at bytes table = do
  id ← scalar bytes table 0 8
  values ← reference bytes table 1
  delta ← scalar bytes table 2 1
  Ok (record { id = id; values = values; delta = not (delta == 0) })

-- The dictionary: there are values (Message.fbs, "DictionaryBatch").
abbrev pub dictionary_at : List ℕ → ℕ → Result DictionaryHead MetaFault
dictionary_at bytes table = do
  dictionary ← fault_as fault.Flat (dictionary_table_at bytes table)
  values ← or_fault fault.Shape dictionary.values
  Ok (record { id = dictionary.id; values = values; delta = dictionary.delta })
