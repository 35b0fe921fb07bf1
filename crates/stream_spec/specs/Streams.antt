-- What bytes read as, as a stream: its schema and its batches of rows, and the first fault, if
-- there is one (Arrow columnar format, "IPC Streaming Format" and "Encapsulated message format").
use Rattle.std.specs.Prelude.{◌≡◌, ℕ, zero, suc, ◌+◌, ◌^◌, Bool, true, false, not, nat_lt, nat_le}
use Rattle.std.specs.Prelude.{if◌then◌else◌, ◌==◌, List, [], ◌∷◌, ◌++◌, map, find, length, take}
use Rattle.std.specs.Prelude.{drop, bytes_eq, option_map, Option, None, Some, Result, Ok, Err}
use Rattle.cell_model.specs.declared.cell.Cell.{Cell}
use Rattle.cell_model.specs.declared.column.Column.{Column}
use Rattle.arrow_spec.specs.Streams.{continuation}
use Rattle.flat_read.specs.Reading.{number_from}
use Rattle.cell_model.specs.declared.kind.Kind.{Kind}
use Rattle.arrow_spec.specs.declared.fields.Field.{Field}
use Rattle.stream_spec.specs.Checks.{◌>>=◌, fault_as, or_fault, rule}
use Rattle.stream_spec.specs.Columns.{Dictionary, rows_of, values_in, values_with, with_values}
use Rattle.stream_spec.specs.declared.message.DictionaryHead.{DictionaryHead}
use Rattle.stream_spec.specs.declared.message.Head.{Head}
use Rattle.stream_spec.specs.declared.message.HeadKind.{HeadKind}
use Rattle.stream_spec.specs.declared.message.HeadKind.TheVariants as kind
use Rattle.stream_spec.specs.Metadata.{batch_at, dictionary_at, fields_at, head_of}
use Rattle.stream_spec.specs.declared.fault.Cause.{Cause}
use Rattle.stream_spec.specs.declared.fault.Cause.TheVariants as cause
use Rattle.stream_spec.specs.declared.fault.MetaFault.{MetaFault}
use Rattle.stream_spec.specs.declared.fault.MetaFault.TheVariants as meta
use Rattle.stream_spec.specs.declared.fault.StreamFault.{StreamFault}

-- a fault of the metadata as a stream's cause
abbrev pub cause_of : MetaFault → Cause
cause_of (meta.Flat fault) = cause.Flat
cause_of meta.Version = cause.Version
cause_of meta.Dictionary = cause.Dictionary
cause_of meta.Kind = cause.Kind
cause_of meta.Shape = cause.Shape
cause_of meta.Endian = cause.Endian
cause_of meta.Utf8 = cause.Utf8
cause_of meta.Compressed = cause.Compressed

-- A message as it is framed: its metadata, and the bytes behind that, with which its body begins;
-- or none, at the end word or at the end of the input.
pub data Frame : Type 0 where
  ended : Frame
  framed : List ℕ → List ℕ → Frame

-- what stands behind a message's first eight bytes, whose size word this is
abbrev pub sized : Bool → ℕ → List ℕ → Result Frame Cause
sized first zero rest = do
  later ← rule cause.Short (not first)
  Ok ended
sized first (suc less) rest = do
  positive ← rule cause.Flat (nat_lt (suc less) (2 ^ 31))
  whole ← rule cause.Short (nat_le (suc less) (length rest))
  Ok (framed (take (suc less) rest) (drop (suc less) rest))

-- The next message: four bytes FF, the metadata's size in 32 bits, and the metadata. The stream
-- ends with the input or with a size of 0, but not before its first message.
abbrev pub frame_of : Bool → List ℕ → Result Frame Cause
frame_of first [] = do
  later ← rule cause.Short (not first)
  Ok ended
frame_of first (byte ∷ bytes) = do
  four ← rule cause.Short (nat_le 4 (length (byte ∷ bytes)))
  marker ← rule cause.Marker (bytes_eq (take 4 (byte ∷ bytes)) continuation)
  eight ← rule cause.Short (nat_le 8 (length (byte ∷ bytes)))
  sized first (number_from (byte ∷ bytes) 4 4) (drop 8 (byte ∷ bytes))

-- a message of this kind may stand here: the first is a schema, and no other is
abbrev pub is_due : Bool → HeadKind → Bool
is_due true kind.Schema = true
is_due true kind.Dictionary = false
is_due true kind.Batch = false
is_due false kind.Schema = false
is_due false kind.Dictionary = true
is_due false kind.Batch = true

-- a message's head, where it may stand here, with its body whole
abbrev pub due_head : Bool → List ℕ → List ℕ → Result Head Cause
due_head first metadata rest = do
  head ← fault_as cause_of (head_of metadata)
  due ← rule cause.Shape (is_due first head.kind)
  body ← rule cause.Short (nat_le head.body (length rest))
  Ok head

-- What is read of a stream: the schema, where its message is one; the rows of each batch; and the
-- first fault.
pub record Reading : Type 0 where
  pub schema : Option (List Column)
  pub batches : List (List (List Cell))
  pub fault : Option StreamFault

abbrev pub fault_at : ℕ → Cause → StreamFault
fault_at place cause = record { place = place; cause = cause }

-- ---- the schema

-- the schema with which a stream begins, and how many bytes its message has
pub record SchemaRead : Type 0 where
  pub fields : List Field
  pub size : ℕ

abbrev pub framed_schema : Frame → Result SchemaRead Cause
framed_schema ended = Err cause.Short
framed_schema (framed metadata rest) = do
  head ← due_head true metadata rest
  fields ← fault_as cause_of (fields_at metadata head.header)
  Ok (record { fields = fields; size = 8 + length metadata + head.body })

abbrev pub first_schema : List ℕ → Result SchemaRead Cause
first_schema bytes = do
  frame ← frame_of true bytes
  framed_schema frame

-- ---- later messages

-- What later messages are read with: the fields, and the dictionaries that came.
pub record Known : Type 0 where
  pub fields : List Field
  pub dictionaries : List Dictionary

-- what a schema's message tells
abbrev pub known_by : SchemaRead → Known
known_by schema = record { fields = schema.fields; dictionaries = [] }

abbrev pub columns_in : Known → List Column
columns_in known = map (λ field. field.column) known.fields

-- What a message brings: a batch, if it is one, and what is known behind it.
pub record Brought : Type 0 where
  pub batches : List (List (List Cell))
  pub known : Known

-- A record batch brings its rows, and leaves what is known.
abbrev pub batch_brought : Known → List ℕ → ℕ → List ℕ → Result Brought Cause
batch_brought known metadata table body = do
  batch ← fault_as cause_of (batch_at metadata table)
  rows ← rows_of known.dictionaries known.fields batch body
  Ok (record { batches = rows ∷ []; known = known })

-- the field has the dictionary with this id
abbrev pub has_dictionary : ℕ → Field → Bool
has_dictionary id field = elim field.encoding [
  | None ↦ false
  | Some encoding ↦ encoding.id == id
]

-- the kind of a dictionary's values: that of a field that has it
abbrev pub kind_with : ℕ → List Field → Option Kind
kind_with id fields = option_map (λ field. field.column.kind) (find (has_dictionary id) fields)

-- a dictionary's values: those that came stand in place of those before, or behind them
abbrev pub values_after : Bool → List Cell → List Cell → List Cell
values_after delta before came = if delta then before ++ came else came

abbrev pub with_dictionary : Known → DictionaryHead → List Cell → Known
with_dictionary known dictionary came = record {
  fields = known.fields;
  dictionaries = with_values dictionary.id
      (values_after dictionary.delta (values_with dictionary.id known.dictionaries) came)
      known.dictionaries;
}

-- A dictionary brings no rows; it is some field's (Arrow columnar format, "Dictionary Messages").
abbrev pub dictionary_brought : Known → List ℕ → ℕ → List ℕ → Result Brought Cause
dictionary_brought known metadata table body = do
  dictionary ← fault_as cause_of (dictionary_at metadata table)
  kind ← or_fault cause.Dictionary (kind_with dictionary.id known.fields)
  batch ← fault_as cause_of (batch_at metadata dictionary.values)
  came ← values_in kind batch body
  Ok (record { batches = []; known = with_dictionary known dictionary came })

abbrev pub brought_by : HeadKind → Known → List ℕ → ℕ → List ℕ → Result Brought Cause
brought_by kind.Schema known metadata table body = Err cause.Shape
brought_by kind.Dictionary known metadata table body = dictionary_brought known metadata table body
brought_by kind.Batch known metadata table body = batch_brought known metadata table body

-- A later message: what it brings, and how many bytes it has.
pub record MessageRead : Type 0 where
  pub batches : List (List (List Cell))
  pub known : Known
  pub size : ℕ

abbrev pub framed_message : Known → Frame → Result (Option MessageRead) Cause
framed_message known ended = Ok None
framed_message known (framed metadata rest) = do
  head ← due_head false metadata rest
  brought ← brought_by head.kind known metadata head.header (take head.body rest)
  Ok (Some (record {
    batches = brought.batches;
    known = brought.known;
    size = 8 + length metadata + head.body;
  }))

-- the message with which the bytes begin; none where the stream ends
abbrev pub next_message : Known → List ℕ → Result (Option MessageRead) Cause
next_message known bytes = do
  frame ← frame_of false bytes
  framed_message known frame

-- ---- the stream

-- batches in front of what else is read
abbrev pub behind : List (List (List Cell)) → Reading → Reading
behind batches reading = record reading { batches = batches ++ reading.batches }

abbrev pub ends_with : Known → Option StreamFault → Reading
ends_with known fault = record { schema = Some (columns_in known); batches = []; fault = fault }

-- The messages from a place on. Each has bytes of its own, so there are fewer than the bytes are
-- many.
abbrev pub messages_from : ℕ → Known → ℕ → List ℕ → Reading
messages_from zero known place bytes = ends_with known None
messages_from (suc more) known place bytes = elim (next_message known bytes) [
  | Err cause ↦ ends_with known (Some (fault_at place cause))
  | Ok None ↦ ends_with known None
  | Ok (Some message) ↦ behind message.batches
      (messages_from more message.known (place + message.size) (drop message.size bytes))
]

-- What bytes read as: one Schema message and any number of dictionaries and record batches, up to
-- the end word or the end of the input.
abbrev pub reading_of : List ℕ → Reading
reading_of bytes = elim (first_schema bytes) [
  | Err cause ↦ record { schema = None; batches = []; fault = Some (fault_at 0 cause) }
  | Ok schema ↦ messages_from (length bytes + 1) (known_by schema) schema.size
      (drop schema.size bytes)
]

-- The bytes are a stream of this schema with these batches of rows.
abbrev pub Reads : List ℕ → List Column → List (List (List Cell)) → Type 0
Reads bytes columns batches = reading_of bytes
    ≡ record { schema = Some columns; batches = batches; fault = None }
