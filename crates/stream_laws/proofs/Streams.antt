-- A stream reads as its columns and its batches.
use Rattle.std.proofs.Common.{◌≡◌, ℕ, zero, suc, ◌+◌, ◌<◌, ◌≤◌, List, [], ◌∷◌, ◌++◌, length, map, drop, refl, sym, ap, ◌∙◌, arith, append_assoc, append-nil, length-append, Some, None, Ok}
use Rattle.std.specs.Prelude.{flat_map}
use Rattle.std.proofs.lemmas.List.{drop_at}
use Rattle.std.proofs.lemmas.List.Elements.{All-head, All-tail}
use Rattle.std.specs.List.{All}
use Rattle.cell_model.specs.declared.cell.Cell.{Cell}
use Rattle.cell_model.specs.declared.column.Column.{Column}
use Rattle.arrow_spec.specs.Batches.{Batch, batch_of}
use Rattle.arrow_spec.specs.Metadata.{record_batch, flatbuffer_of}
use Rattle.arrow_spec.specs.Streams.{batch_message, end_word, schema_message, stream_of}
use Rattle.arrow_spec.specs.Fields.{plain_fields}
use Rattle.stream_spec.specs.Streams.{Known, Reading, first_schema, messages_from, next_message, reading_of}
use Rattle.stream_laws.specs.Laws.{AreTold, IsBatch, StreamEnds, StreamIsRead, knowing}
use Rattle.stream_laws.proofs.BatchMessages.{batch_is_read}
use Rattle.stream_laws.proofs.Frames.{end-framed, length-message}
use Rattle.stream_laws.proofs.SchemaMessages.{schema_is_read}

-- a message has some bytes
message-some : (columns : List Column) (rows : List (List Cell))
    → 0 < length (batch_message columns rows)
message-some columns rows =
    let batch : Batch = batch_of columns rows in
    omega (
      arith,
      length-message (flatbuffer_of (record_batch batch.rows batch.nodes batch.buffers)
          (length batch.body)) batch.body,
    )

-- so there are no more batches than bytes
batches-few : (columns : List Column) (batches : List (List (List Cell)))
    → length batches ≤ length (flat_map (batch_message columns) batches)
batches-few columns [] = omega arith
batches-few columns (rows ∷ batches) =
    omega (
      arith,
      length-append (batch_message columns rows)
          (flat_map (batch_message columns) batches),
      message-some columns rows,
      batches-few columns
          batches,
    )

-- the end word ends the batches, whatever follows it
pub end-read : (known : Known) (after : List ℕ)
    → next_message known (end_word ++ after) ≡ Ok None
end-read known after = let is = end-framed after in rw is refl

-- nothing more of these columns
abbrev ended_with : List Column → Reading
ended_with columns = record { schema = Some columns; batches = []; fault = None }

-- the columns of fields that are not encoded
pub columns-back : (columns : List Column) → map (λ field. field.column) (plain_fields columns) ≡ columns
columns-back [] = refl
columns-back (column ∷ columns) = ap (λ (c : List Column). column ∷ c) (columns-back columns)

-- the batches from a place on, up to the end word
batches-read : (more place : ℕ) (columns : List Column) (batches : List (List (List Cell)))
    (after : List ℕ)
    → AreTold columns → All (IsBatch columns) batches → length batches < more
    → messages_from more (knowing columns []) place (flat_map (batch_message columns) batches
    ++ (end_word ++ after))
    ≡ record { schema = Some columns; batches = batches; fault = None }
batches-read zero place columns batches after told all few = absurd (omega arith)
batches-read (suc more) place columns [] after told all few =
    let is = end-read (knowing columns []) after in
    rw (is, messages_from) (ap (λ (c : List Column). ended_with c) (columns-back columns))
batches-read (suc more) place columns (rows ∷ batches) after told all few =
    let message : List ℕ = batch_message columns rows in
    let rest : List ℕ = flat_map (batch_message columns) batches ++ (end_word ++ after) in
    let is : IsBatch columns rows = All-head (IsBatch columns) rows batches all in
    let parts : flat_map (batch_message columns) (rows ∷ batches) ++ (end_word ++ after) ≡ message
    ++ rest =
    append_assoc message (flat_map (batch_message columns) batches) (end_word ++ after) in
    let one = batch_is_read columns [] rows rest told is in
    let behind : drop (length message) (message ++ rest) ≡ rest =
    drop_at message rest (length message) refl in
    let others =
    batches-read more (place + length message) columns batches after told
    (All-tail (IsBatch columns) rows batches all) (omega arith) in
    ap (messages_from (suc more) (knowing columns []) place) parts
    ∙ rw (one, messages_from) (rw (behind, others) refl)

-- What follows a stream's end word is not looked at.
pub stream_ends : StreamEnds
stream_ends columns batches after told all =
    let schema : List ℕ = schema_message columns in
    let messages : List ℕ = flat_map (batch_message columns) batches in
    let rest : List ℕ = messages ++ (end_word ++ after) in
    let bytes : List ℕ = stream_of columns batches ++ after in
    let parts : bytes ≡ schema ++ rest =
    append_assoc (schema ++ messages) end_word after
    ∙ append_assoc schema messages (end_word ++ after) in
    let first : first_schema bytes ≡ Ok (record { fields = plain_fields columns; size = length schema }) =
    ap first_schema parts ∙ schema_is_read columns rest told in
    let behind : drop (length schema) bytes ≡ rest =
    ap (drop (length schema)) parts ∙ drop_at schema rest (length schema) refl in
    let long : length bytes ≡ length schema + length rest =
    ap length parts ∙ length-append schema rest in
    let enough : length batches < length bytes + 1 =
    omega (arith, long, length-append messages (end_word ++ after), batches-few columns batches) in
    let others =
    batches-read (length bytes + 1) (length schema) columns batches after told all enough in
    rw (first, reading_of) (rw behind others)

-- A stream of batches reads as its columns and exactly these batches.
pub stream_is_read : StreamIsRead
stream_is_read columns batches told all =
    ap reading_of (sym (append-nil (stream_of columns batches)))
    ∙ stream_ends columns batches [] told all
