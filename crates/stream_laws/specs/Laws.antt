-- What the canonical bytes of a schema, a batch and a stream read as.
use Rattle.std.specs.Prelude.{◌≡◌, ℕ, ◌^◌, ◌<◌, ◌≤◌, List, [], ◌∷◌, ◌++◌, length, drop, map}
use Rattle.std.specs.Prelude.{replicate, true, false, Some, Ok}
use Rattle.std.specs.List.{All}
use Rattle.cell_model.specs.Kinds.{kinds, values_of}
use Rattle.cell_model.specs.Rows.{Fits}
use Rattle.cell_model.specs.Schemas.{AreNamed, IsSchema}
use Rattle.cell_model.specs.declared.cell.Cell.{Cell}
use Rattle.cell_model.specs.declared.column.Column.{Column}
use Rattle.cell_model.specs.declared.kind.Kind.TheVariants as kind
use Rattle.cell_model.specs.declared.values.Values.{Values}
use Rattle.arrow_spec.specs.Examples.{key_and, nine_rows}
use Rattle.arrow_spec.specs.Streams.{batch_message, dict_schema_message, dict_stream_of}
use Rattle.arrow_spec.specs.Streams.{schema_message, stream_of}
use Rattle.arrow_spec.specs.Fields.{encoded_fields, plain_fields}
use Rattle.arrow_spec.specs.declared.fields.Field.{Field}
use Rattle.stream_spec.specs.Columns.{Dictionary, data_count, data_needs, has_offsets, lies_in}
use Rattle.stream_spec.specs.Columns.{rows_of}
use Rattle.stream_spec.specs.Metadata.{BatchTable}
use Rattle.stream_spec.specs.Samples.{at, later_fault_with}
use Rattle.stream_spec.specs.Streams.{Known, Reads, SchemaRead, first_schema, known_by}
use Rattle.stream_spec.specs.Streams.{messages_from, next_message, reading_of}
use Rattle.stream_spec.specs.declared.fault.Cause.TheVariants as cause

-- Columns that a stream can tell: there is one, there are at most 2^14, each name is a text, and
-- each kind is one that there is.
-- The metadata of 2^15 columns with the longest names would have 2^31 bytes and more, which no size
-- word tells.
pub record AreTold (columns : List Column) : Type 0 where
  pub some : 0 < length columns
  pub few : length columns ≤ 2 ^ 14
  pub named : AreNamed columns

-- A schema's message, whatever follows it, reads as its columns, and is as long as it says.
abbrev pub SchemaIsRead : Type 0
SchemaIsRead =
    (columns : List Column) (rest : List ℕ) → AreTold columns
    → first_schema (schema_message columns ++ rest)
    ≡ Ok (record { fields = plain_fields columns; size = length (schema_message columns) })

-- Rows of these columns that one batch may have.
pub record IsBatch (columns : List Column) (rows : List (List Cell)) : Type 0 where
  pub fit : All (Fits columns) rows
  pub few : length rows ≤ 2 ^ 15

-- these columns are known, none of them encoded, and these dictionaries
abbrev pub knowing : List Column → List Dictionary → Known
knowing columns dictionaries = record {
  fields = plain_fields columns;
  dictionaries = dictionaries;
}

-- A batch's message, whatever follows it, reads as its rows, and is as long as it says.
abbrev pub BatchIsRead : Type 0
BatchIsRead =
    (columns : List Column) (dictionaries : List Dictionary) (rows : List (List Cell))
    (rest : List ℕ) → AreTold columns
    → IsBatch columns rows
    → next_message (knowing columns dictionaries) (batch_message columns rows ++ rest)
    ≡ Ok (Some (record {
      batches = rows ∷ [];
      known = knowing columns dictionaries;
      size = length (batch_message columns rows);
    }))

-- The stream of batches reads as its columns and exactly these batches.
abbrev pub StreamIsRead : Type 0
StreamIsRead =
    (columns : List Column) (batches : List (List (List Cell))) → AreTold columns
    → All (IsBatch columns) batches
    → Reads (stream_of columns batches) columns batches

-- And what follows a stream's end word is not looked at.
abbrev pub StreamEnds : Type 0
StreamEnds =
    (columns : List Column) (batches : List (List (List Cell))) (after : List ℕ) → AreTold columns
    → All (IsBatch columns) batches
    → Reads (stream_of columns batches ++ after) columns batches

-- ---- by dictionaries

-- The message of a schema whose utf8 and binary columns are encoded, whatever follows it, reads as
-- its fields, and is as long as it says.
abbrev pub DictSchemaIsRead : Type 0
DictSchemaIsRead =
    (columns : List Column) (rest : List ℕ) → AreTold columns
    → first_schema (dict_schema_message columns ++ rest)
    ≡ Ok (record { fields = encoded_fields columns; size = length (dict_schema_message columns) })

-- The stream by dictionaries of batches reads as its columns and exactly these batches.
abbrev pub DictStreamIsRead : Type 0
DictStreamIsRead =
    (columns : List Column) (batches : List (List (List Cell))) → AreTold columns
    → All (IsBatch columns) batches
    → Reads (dict_stream_of columns batches) columns batches

-- And what follows its end word is not looked at.
abbrev pub DictStreamEnds : Type 0
DictStreamEnds =
    (columns : List Column) (batches : List (List (List Cell))) (after : List ℕ) → AreTold columns
    → All (IsBatch columns) batches
    → Reads (dict_stream_of columns batches ++ after) columns batches

-- ---- of all streams

-- The columns of a table are some that a stream can tell.
abbrev pub TablesAreTold : Type 0
TablesAreTold = (columns : List Column) → IsSchema columns → AreTold columns

-- The worked example of nine rows in two batches is such a stream.
abbrev pub NineRowsAreTold : Type 0
NineRowsAreTold =
    AreTold (key_and kind.Utf8 true) × All (IsBatch (key_and kind.Utf8 true)) nine_rows

-- Bytes are a stream of one schema with one list of batches at most.
abbrev pub OneReading : Type 0
OneReading =
    (bytes : List ℕ) (columns others : List Column) (batches more : List (List (List Cell)))
    → Reads bytes columns batches → Reads bytes others more → (columns ≡ others) × (batches ≡ more)

-- However many messages are looked for, if they are more than the bytes, the bytes read as the
-- same: nothing is read as a whole stream because the search for its messages was at its end.
abbrev pub SearchIsLongEnough : Type 0
SearchIsLongEnough = (bytes : List ℕ) (schema : SchemaRead) (more : ℕ)
    → first_schema bytes ≡ Ok schema → length bytes < more
    → reading_of bytes ≡ messages_from more (known_by schema) schema.size (drop schema.size bytes)

-- A batch that is read has a cell of each column in each row: none was left out for want of a node
-- or of a buffer. And each buffer that it names lies in its body: none was left unseen.
pub record IsWhole (fields : List Field) (batch : BatchTable) (body : List ℕ)
    (rows : List (List Cell)) : Type 0 where
  pub cells : All (λ row. length row ≡ length fields) rows
  pub buffers : All (λ buffer. lies_in body buffer ≡ true) batch.buffers

abbrev pub BatchesAreWhole : Type 0
BatchesAreWhole =
    (dictionaries : List Dictionary) (fields : List Field) (batch : BatchTable) (body : List ℕ)
    (rows : List (List Cell))
    → rows_of dictionaries fields batch body ≡ Ok rows → IsWhole fields batch body rows

-- Behind its validity a column has as many buffers as needs, so none of the two is left over.
abbrev pub NeedsAreCounted : Type 0
NeedsAreCounted = (values : Values) (rows : ℕ) → length (data_needs values rows) ≡ data_count values

-- What nine slots of each kind need: numbers and strips their bytes, truth values a bitmap, and
-- values of any length ten offsets and as many bytes as these tell.
abbrev pub NineSlotsNeed : Type 0
NineSlotsNeed = map (λ each. data_needs (values_of each) 9) (kinds ++ kind.Fixed 3 ∷ [])
    ≡ (9 ∷ []) ∷ (18 ∷ []) ∷ (36 ∷ []) ∷ (72 ∷ []) ∷ (9 ∷ []) ∷ (18 ∷ []) ∷ (36 ∷ [])
    ∷ (72 ∷ []) ∷ (2 ∷ []) ∷ (40 ∷ 0 ∷ []) ∷ (40 ∷ 0 ∷ []) ∷ (80 ∷ 0 ∷ []) ∷ (80 ∷ 0 ∷ [])
    ∷ (36 ∷ []) ∷ (27 ∷ []) ∷ []

-- As offsets of either width these bytes are 1 and 0, which fall: no slot of a kind with offsets
-- lies between them.
abbrev pub FallingOffsetsAreFound : Type 0
FallingOffsetsAreFound =
    map
    (λ each. has_offsets (values_of each) ((1 ∷ replicate 15 0) ∷ (7 ∷ []) ∷ []) 1)
    (kinds ++ kind.Fixed 3 ∷ [])
    ≡ replicate 9 true ++ replicate 4 false ++ true ∷ true ∷ []

-- A field of an integer without a reference to its type's table has no bits, and so no kind.
abbrev pub AbsentTypeIsFound : Type 0
AbsentTypeIsFound = later_fault_with ((106, 0x00) ∷ []) ≡ at 0 cause.Kind
