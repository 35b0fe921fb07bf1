-- Rows as an Arrow stream (Arrow columnar format, "IPC Streaming Format" and "Dictionary Messages").
use Rattle.std.specs.Prelude.{ℕ, List, [], ◌∷◌, ◌++◌, length, map, replicate, flat_map, ℤ}
use Rattle.std.specs.Prelude.{Option, None, Some}
use Rattle.std.specs.Int.{w32, to_le_bytes}
use Rattle.std.specs.List.{enumerate_from}
use Rattle.cell_model.specs.declared.cell.Cell.{Cell}
use Rattle.cell_model.specs.declared.column.Column.{Column}
use Rattle.arrow_spec.specs.Batches.{Batch, batch_of, batch_of_arrays}
use Rattle.arrow_spec.specs.Bytes.{padded}
use Rattle.arrow_spec.specs.DictBatches.{DictBatch, Dictionary, dict_batch_of}
use Rattle.arrow_spec.specs.Fields.{encoded_fields, plain_fields}
use Rattle.arrow_spec.specs.Metadata.{Header, dictionary_batch, flatbuffer_of, record_batch, schema}
use Rattle.arrow_spec.specs.declared.fields.Field.{Field}

-- the four bytes FF with which each message and the end word begin
abbrev pub continuation : List ℕ
continuation = replicate 4 0xff

-- A message: four bytes FF, the size of the metadata in 32 bits, which counts the padding, the
-- metadata with zeros to a multiple of 8, and the body (Arrow columnar format, "Encapsulated
-- message format").
abbrev pub message : List ℕ → List ℕ → List ℕ
message metadata body = continuation ++ to_le_bytes w32 (length (padded metadata))
    ++ padded metadata ++ body

-- The message with this header and this body.
abbrev pub message_with : Header → List ℕ → List ℕ
message_with header body = message (flatbuffer_of header (length body)) body

-- The message of a schema, which has no body.
abbrev pub message_of_schema : List Field → List ℕ
message_of_schema fields = message_with (schema fields) []

-- the header of a batch of so many rows with its nodes and the places of its buffers: that of a
-- record batch, or of the dictionary with an id
abbrev pub batch_header : Option ℕ → ℕ → List (ℤ × ℤ) → List (ℤ × ℤ) → Header
batch_header None rows nodes buffers = record_batch rows nodes buffers
batch_header (Some id) rows nodes buffers = dictionary_batch id rows nodes buffers

-- The message of such a batch.
abbrev pub message_of : Option ℕ → Batch → List ℕ
message_of id batch = message_with (batch_header id batch.rows batch.nodes batch.buffers) batch.body

-- The message of a record batch.
abbrev pub message_of_batch : Batch → List ℕ
message_of_batch batch = message_of None batch

-- The word that ends a stream: a message of no metadata.
abbrev pub end_word : List ℕ
end_word = continuation ++ replicate 4 0

-- ---- with each value in its slot

-- The message of a schema of these columns.
abbrev pub schema_message : List Column → List ℕ
schema_message columns = message_of_schema (plain_fields columns)

-- The message of a batch of these rows.
abbrev pub batch_message : List Column → List (List Cell) → List ℕ
batch_message columns rows = message_of_batch (batch_of columns rows)

-- A stream: the schema's message, one record batch for each list of rows, and the end word.
abbrev pub stream_of : List Column → List (List (List Cell)) → List ℕ
stream_of columns batches = schema_message columns ++ flat_map (batch_message columns) batches
    ++ end_word

-- ---- by dictionaries

-- The message of a schema whose utf8 and binary columns are encoded.
abbrev pub dict_schema_message : List Column → List ℕ
dict_schema_message columns = message_of_schema (encoded_fields columns)

-- The message of the dictionary with this id.
abbrev pub message_of_dictionary : ℕ → Dictionary → List ℕ
message_of_dictionary id dictionary =
    message_of (Some id) (batch_of_arrays dictionary.size (dictionary.array ∷ []))

-- the message of the column at a place, which is the dictionary's id; nothing where it has none
abbrev pub dictionary_message : ℕ × Option Dictionary → List ℕ
dictionary_message (place, None) = []
dictionary_message (place, Some dictionary) = message_of_dictionary place dictionary

-- The messages of rows by dictionaries: the dictionaries in the order of the columns, each in place
-- of the one before with its id, and then the record batch.
abbrev pub messages_of_dicts : DictBatch → List ℕ
messages_of_dicts dicts = flat_map dictionary_message (enumerate_from 0 dicts.dictionaries)
    ++ message_of_batch (batch_of_arrays dicts.rows dicts.arrays)

-- The messages of these rows.
abbrev pub dict_messages : List Column → List (List Cell) → List ℕ
dict_messages columns rows = messages_of_dicts (dict_batch_of columns rows)

-- A stream of batches by dictionaries: the schema's message, the messages of each batch, and the end
-- word.
abbrev pub stream_of_dicts : List Column → List DictBatch → List ℕ
stream_of_dicts columns batches = dict_schema_message columns
    ++ flat_map messages_of_dicts batches ++ end_word

-- The stream by dictionaries of these lists of rows.
abbrev pub dict_stream_of : List Column → List (List (List Cell)) → List ℕ
dict_stream_of columns batches = stream_of_dicts columns (map (dict_batch_of columns) batches)
