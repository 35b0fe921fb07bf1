-- Streams with dictionaries, and what they read as.
use Rattle.std.specs.Prelude.{◌≡◌, ℕ, true, List, [], ◌∷◌, ◌++◌, map, length, codes, pos, negsuc}
use Rattle.std.specs.Prelude.{flat_map, Option, None, Some}
use Rattle.cell_model.specs.declared.cell.Cell.{Cell}
use Rattle.cell_model.specs.declared.cell.Cell.TheVariants.{Null, Num, Truth, Text}
use Rattle.cell_model.specs.declared.kind.Kind.{Kind}
use Rattle.cell_model.specs.declared.kind.Kind.TheVariants as kind
use Rattle.arrow_spec.specs.Batches.{batch_of_arrays}
use Rattle.arrow_spec.specs.DictBatches.{array_of}
use Rattle.arrow_spec.specs.DictExamples.{fifth_text, four_texts, four_texts_bytes, text_and_bytes}
use Rattle.arrow_spec.specs.DictExamples.{text_and_bytes_row}
use Rattle.arrow_spec.specs.Examples.{key_and}
use Rattle.arrow_spec.specs.Streams.{dict_stream_of, end_word, message_of, message_of_schema}
use Rattle.arrow_spec.specs.declared.fields.Field.{Field}
use Rattle.stream_spec.specs.Samples.{at, with_bytes}
use Rattle.stream_spec.specs.Streams.{Reads, reading_of}
use Rattle.stream_spec.specs.declared.fault.Cause.TheVariants as cause
use Rattle.stream_spec.specs.declared.fault.StreamFault.{StreamFault}

-- the four texts, "b", "a", null and "b"
abbrev pub FourTextsAreRead : Type 0
FourTextsAreRead = Reads four_texts_bytes (key_and kind.Utf8 true) (four_texts ∷ [])

-- "c" behind them, by a dictionary in place of the one before
abbrev pub FifthTextIsRead : Type 0
FifthTextIsRead = Reads (dict_stream_of (key_and kind.Utf8 true) (four_texts ∷ fifth_text ∷ []))
    (key_and kind.Utf8 true) (four_texts ∷ fifth_text ∷ [])

-- a column of texts and one of bytes, each with its dictionary, and one without
abbrev pub TextAndBytesAreRead : Type 0
TextAndBytesAreRead = Reads (dict_stream_of text_and_bytes (text_and_bytes_row ∷ []))
    text_and_bytes (text_and_bytes_row ∷ [])

-- the fault of the four texts with these bytes changed
abbrev pub four_fault_with : List (ℕ × ℕ) → Option StreamFault
four_fault_with changes = (reading_of (with_bytes changes four_texts_bytes)).fault

-- An index above the dictionary, a negative one, and both at a null; a dictionary of no field's,
-- one without values, one of bytes that are no text, and one that leads out of its metadata; a
-- record batch as a dictionary; a dictionary of another header; an encoding that leads out, by
-- another id, by indices of 7 bits, of 64, of 8, without a sign, and of a type that is absent; a
-- dictionary in order, and one that comes behind none.
abbrev pub ChangedIndicesAreFound : Type 0
ChangedIndicesAreFound = map four_fault_with
    (((768, 0x02) ∷ []) ∷ ((771, 0x80) ∷ []) ∷ ((776, 0x09) ∷ []) ∷ ((779, 0x80) ∷ [])
    ∷ ((376, 0x02) ∷ []) ∷ ((358, 0x00) ∷ []) ∷ ((520, 0xff) ∷ []) ∷ ((372, 0xff) ∷ [])
    ∷ ((578, 0x02) ∷ []) ∷ ((346, 0x04) ∷ []) ∷ ((188, 0xff) ∷ []) ∷ ((256, 0x02) ∷ [])
    ∷ ((284, 0x07) ∷ []) ∷ ((284, 0x40) ∷ []) ∷ ((284, 0x08) ∷ []) ∷ ((288, 0x00) ∷ [])
    ∷ ((238, 0x00) ∷ []) ∷ ((264, 0x01) ∷ []) ∷ ((384, 0x01) ∷ [])
    ∷ [])
    ≡ at 528 cause.Dictionary ∷ at 528 cause.Dictionary ∷ None ∷ None
    ∷ at 296 cause.Dictionary ∷ at 296 cause.Shape ∷ at 296 cause.Utf8 ∷ at 296 cause.Flat
    ∷ at 528 cause.Dictionary ∷ at 296 cause.Kind ∷ at 0 cause.Flat ∷ at 296 cause.Dictionary
    ∷ at 0 cause.Kind ∷ at 528 cause.Buffer ∷ None ∷ None
    ∷ None ∷ None ∷ None
    ∷ []

-- ---- streams of other writers

-- a column `v` of this kind, by the dictionary with this id and indices of this kind
abbrev pub coded : ℕ → Kind → Kind → Field
coded id kind indices = record {
  column = record { name = codes "v"; kind = kind; nullable = true };
  encoding = Some (record { id = id; indices = indices });
}

-- the message of cells of a kind: those of a record batch, or of the dictionary with an id
abbrev pub cells_message : Option ℕ → Kind → List Cell → List ℕ
cells_message id kind cells = message_of id
    (batch_of_arrays (length cells) (array_of kind cells ∷ []))

-- the same as values behind those that are there
abbrev pub more_values : ℕ → Kind → List Cell → List ℕ
more_values id kind cells = with_bytes ((88, 1) ∷ []) (cells_message (Some id) kind cells)

-- the stream of these messages
abbrev pub messages_stream : List Field → List (List ℕ) → List ℕ
messages_stream fields messages =
    message_of_schema fields ++ flat_map (λ message. message) messages ++ end_word

-- the rows of each batch
abbrev pub batches_of : List Field → List (List ℕ) → List (List (List Cell))
batches_of fields messages = (reading_of (messages_stream fields messages)).batches

abbrev pub fault_of : List Field → List (List ℕ) → Option StreamFault
fault_of fields messages = (reading_of (messages_stream fields messages)).fault

-- values as rows of one cell
abbrev pub as_rows : List Cell → List (List Cell)
as_rows cells = map (λ cell. cell ∷ []) cells

-- Values come behind those that are there, also where none are; they come in their place; and there
-- is a null among them, which is none where its index is.
abbrev pub DictionariesGrow : Type 0
DictionariesGrow = batches_of (coded 7 kind.Utf8 kind.I32 ∷ [])
    (more_values 7 kind.Utf8 (Text (codes "a") ∷ Null ∷ [])
    ∷ more_values 7 kind.Utf8 (Text (codes "b") ∷ [])
    ∷ cells_message None kind.I32 (Num (pos 2) ∷ Num (pos 1) ∷ Null ∷ Num (pos 0) ∷ [])
    ∷ cells_message (Some 7) kind.Utf8 (Text (codes "c") ∷ [])
    ∷ cells_message None kind.I32 (Num (pos 0) ∷ [])
    ∷ [])
    ≡ as_rows (Text (codes "b") ∷ Null ∷ Null ∷ Text (codes "a") ∷ [])
    ∷ as_rows (Text (codes "c") ∷ [])
    ∷ []

-- Values of any kind may be encoded, by indices of any integers.
abbrev pub OtherKindsAreRead : Type 0
OtherKindsAreRead = map (λ index. batches_of (coded 0 kind.I64 index ∷ [])
    (cells_message (Some 0) kind.I64 (Num (pos 5) ∷ Num (negsuc 0) ∷ [])
    ∷ cells_message None index (Num (pos 1) ∷ Num (pos 0) ∷ [])
    ∷ []))
    (kind.I8 ∷ kind.U8 ∷ kind.I16 ∷ kind.U16 ∷ kind.I32 ∷ kind.U32 ∷ kind.I64 ∷ kind.U64 ∷ [])
    ≡ map (λ index. as_rows (Num (negsuc 0) ∷ Num (pos 5) ∷ []) ∷ [])
    (kind.I8 ∷ kind.U8 ∷ kind.I16 ∷ kind.U16 ∷ kind.I32 ∷ kind.U32 ∷ kind.I64 ∷ kind.U64 ∷ [])

-- Two fields may have one dictionary, with indices of their own, where their values are of one
-- kind.
abbrev pub OneDictionaryIsShared : Type 0
OneDictionaryIsShared =
    (batches_of (coded 3 kind.Bool kind.U8 ∷ coded 3 kind.Bool kind.I8 ∷ [])
    (cells_message (Some 3) kind.Bool (Truth true ∷ []) ∷ message_of None (batch_of_arrays 1
    (array_of kind.U8 (Num (pos 0) ∷ []) ∷ array_of kind.I8 (Null ∷ []) ∷ [])) ∷ [])
    ≡ ((Truth true ∷ Null ∷ []) ∷ []) ∷ [])
    × (fault_of (coded 3 kind.Utf8 kind.I32 ∷ coded 3 kind.Binary kind.I32 ∷ []) []
    ≡ at 0 cause.Dictionary)

-- Before a dictionary comes, no index is one of its places, and each batch is checked by those that
-- came before it; a type of indices that are no integers is none; a dictionary of another id is no
-- field's.
abbrev pub DictionariesAreChecked : Type 0
DictionariesAreChecked =
    map (fault_of (coded 7 kind.Utf8 kind.I32 ∷ []))
    ((cells_message None kind.I32 (Num (pos 0) ∷ []) ∷ [])
    ∷ (cells_message None kind.I32 (Null ∷ []) ∷ [])
    ∷ (cells_message (Some 6) kind.Utf8 [] ∷ [])
    ∷ (cells_message (Some 7) kind.Binary (Null ∷ []) ∷ [])
    ∷ (message_of_schema (coded 7 kind.Utf8 kind.I32 ∷ []) ∷ [])
    ∷ [])
    ≡ at 224 cause.Dictionary ∷ None ∷ at 224 cause.Dictionary ∷ None ∷ at 224 cause.Shape ∷ []
