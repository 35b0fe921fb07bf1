-- The schema that is read of bytes.
use Rattle.std.proofs.Common.{◌≡◌, ℕ, zero, suc, ◌+◌, false, List, [], ◌∷◌, ◌++◌, length, map, take, drop}
use Rattle.std.proofs.Common.{refl, sym}
use Rattle.std.proofs.Common.{ap}
use Rattle.std.proofs.Common.{◌∙◌, append-nil, Option, Some, None, Result, Ok, Err}
use Rattle.cell_model.specs.declared.cell.Cell.{Cell}
use Rattle.cell_model.specs.declared.kind.Kind.{Kind}
use Rattle.arrow_spec.specs.declared.fields.Field.{Field}
use Rattle.stream_spec.specs.Checks.{◌>>=◌, fault_as, or_fault}
use Rattle.stream_spec.specs.Columns.{rows_of as rows_in, values_in}
use Rattle.stream_spec.specs.Metadata.{BatchTable, batch_at, dictionary_at}
use Rattle.stream_spec.specs.Streams.{Brought, Frame, Known, MessageRead, Reading, SchemaRead}
use Rattle.stream_spec.specs.Streams.{behind, brought_by, cause_of, columns_in, due_head, ended}
use Rattle.stream_spec.specs.Streams.{first_schema, frame_of, framed, framed_message, kind_with}
use Rattle.stream_spec.specs.Streams.{known_by, messages_from, next_message, reading_of}
use Rattle.stream_spec.specs.Streams.{with_dictionary}
use Rattle.stream_spec.specs.declared.message.DictionaryHead.{DictionaryHead}
use Rattle.stream_spec.specs.declared.message.Head.{Head}
use Rattle.stream_spec.specs.declared.message.HeadKind.{HeadKind}
use Rattle.stream_spec.specs.declared.message.HeadKind.TheVariants as kind
use Rattle.stream_spec.specs.declared.fault.Cause.TheVariants as cause
use Rattle.stream_spec.specs.declared.fault.Cause.{Cause}
use Rattle.stream_spec.specs.declared.fault.StreamFault.{StreamFault}
use Rattle.stream_pieces.specs.declared.stand.Stand.{Stand}
use Rattle.stream_pieces.specs.declared.stand.Stand.TheVariants as stand
use Rattle.stream_pieces.specs.Pieces.{FeedsTo, IsWaiting, ReadSoFar, Standing}
use Rattle.stream_pieces.specs.Pieces.{rows_of, schema_of, still_read}
use Rattle.stream_pieces.proofs.GoesOn.{after, by}
use Rattle.stream_pieces.proofs.SoFar.{end-is-told}

-- a message leaves the fields
abbrev Keeps : Known → Result (Option MessageRead) Cause → Type 0
Keeps known (Err cause) = Unit {0}
Keeps known (Ok None) = Unit {0}
Keeps known (Ok (Some message)) = message.known.fields ≡ known.fields

-- so does what it brings
abbrev Leaves : Known → Result Brought Cause → Type 0
Leaves known (Err cause) = Unit {0}
Leaves known (Ok brought) = brought.known.fields ≡ known.fields

rows-leave : (known : Known) (read : Result (List (List Cell)) Cause)
    → Leaves known (read >>= λ rows. Ok (record { batches = rows ∷ []; known = known }))
rows-leave known (Err cause) = tt
rows-leave known (Ok rows) = refl

batch-leaves : (known : Known) (body : List ℕ) (read : Result BatchTable Cause)
    → Leaves known (read >>= λ batch. rows_in known.dictionaries known.fields batch body
    >>= λ rows. Ok (record { batches = rows ∷ []; known = known }))
batch-leaves known body (Err cause) = tt
batch-leaves known body (Ok batch) =
    rows-leave known (rows_in known.dictionaries known.fields batch body)

values-leave : (known : Known) (dictionary : DictionaryHead) (read : Result (List Cell) Cause)
    → Leaves known (read >>= λ came. Ok
    (record { batches = []; known = with_dictionary known dictionary came }))
values-leave known dictionary (Err cause) = tt
values-leave known dictionary (Ok came) = refl

data-leaves : (known : Known) (dictionary : DictionaryHead) (kind : Kind) (body : List ℕ)
    (read : Result BatchTable Cause)
    → Leaves known (read >>= λ batch. values_in kind batch body >>= λ came. Ok
    (record { batches = []; known = with_dictionary known dictionary came }))
data-leaves known dictionary kind body (Err cause) = tt
data-leaves known dictionary kind body (Ok batch) =
    values-leave known dictionary (values_in kind batch body)

kind-leaves : (known : Known) (dictionary : DictionaryHead) (metadata body : List ℕ)
    (read : Result Kind Cause)
    → Leaves known (read >>= λ kind. fault_as cause_of (batch_at metadata dictionary.values)
    >>= λ batch. values_in kind batch body >>= λ came. Ok
    (record { batches = []; known = with_dictionary known dictionary came }))
kind-leaves known dictionary metadata body (Err cause) = tt
kind-leaves known dictionary metadata body (Ok kind) =
    data-leaves known dictionary kind body (fault_as cause_of (batch_at metadata dictionary.values))

dictionary-leaves : (known : Known) (metadata body : List ℕ) (read : Result DictionaryHead Cause)
    → Leaves known (read >>= λ dictionary. or_fault cause.Dictionary
    (kind_with dictionary.id known.fields) >>= λ kind. fault_as cause_of
    (batch_at metadata dictionary.values) >>= λ batch. values_in kind batch body >>= λ came. Ok
    (record { batches = []; known = with_dictionary known dictionary came }))
dictionary-leaves known metadata body (Err cause) = tt
dictionary-leaves known metadata body (Ok dictionary) =
    kind-leaves known dictionary metadata body
    (or_fault cause.Dictionary (kind_with dictionary.id known.fields))

brought-leaves : (kind : HeadKind) (known : Known) (metadata : List ℕ) (table : ℕ) (body : List ℕ)
    → Leaves known (brought_by kind known metadata table body)
brought-leaves kind.Schema known metadata table body = tt
brought-leaves kind.Dictionary known metadata table body =
    dictionary-leaves known metadata body (fault_as cause_of (dictionary_at metadata table))
brought-leaves kind.Batch known metadata table body =
    batch-leaves known body (fault_as cause_of (batch_at metadata table))

brought-keeps : (known : Known) (size : ℕ) (read : Result Brought Cause) → Leaves known read
    → Keeps known (read >>= λ brought. Ok
    (Some (record { batches = brought.batches; known = brought.known; size = size })))
brought-keeps known size (Err cause) leaves = tt
brought-keeps known size (Ok brought) leaves = leaves

head-keeps : (known : Known) (metadata rest : List ℕ) (read : Result Head Cause)
    → Keeps known (read >>= λ head. brought_by head.kind known metadata head.header
    (take head.body rest) >>= λ brought. Ok (Some (record {
      batches = brought.batches;
      known = brought.known;
      size = 8 + length metadata + head.body;
    })))
head-keeps known metadata rest (Err cause) = tt
head-keeps known metadata rest (Ok head) =
    brought-keeps known (8 + length metadata + head.body)
    (brought_by head.kind known metadata head.header (take head.body rest))
    (brought-leaves head.kind known metadata head.header (take head.body rest))

framed-keeps : (known : Known) (frame : Result Frame Cause)
    → Keeps known (frame >>= framed_message known)
framed-keeps known (Err cause) = tt
framed-keeps known (Ok ended) = tt
framed-keeps known (Ok (framed metadata rest)) =
    head-keeps known metadata rest (due_head false metadata rest)

-- A message leaves the fields as they are known.
pub message-keeps : (known : Known) (bytes : List ℕ) → Keeps known (next_message known bytes)
message-keeps known bytes = framed-keeps known (frame_of false bytes)

kept-after : (more : ℕ) (known : Known) (place : ℕ) (bytes : List ℕ)
    (read : Result (Option MessageRead) Cause) → Keeps known read
    → ((k : Known) (place : ℕ) (rest : List ℕ)
    → (messages_from more k place rest).schema ≡ Some (columns_in k))
    → (after more known place bytes read).schema ≡ Some (columns_in known)
kept-after more known place bytes (Err cause) keeps same = refl
kept-after more known place bytes (Ok None) keeps same = refl
kept-after more known place bytes (Ok (Some message)) keeps same =
    same message.known (place + message.size) (drop message.size bytes)
    ∙ ap (λ (fields : List Field). Some (map (λ field. field.column) fields)) keeps

-- Behind a schema it is what is read.
pub schema-kept : (more : ℕ) (known : Known) (place : ℕ) (bytes : List ℕ)
    → (messages_from more known place bytes).schema ≡ Some (columns_in known)
schema-kept zero known place bytes = refl
schema-kept (suc more) known place bytes =
    kept-after more known place bytes (next_message known bytes) (message-keeps known bytes)
    (λ k p rest. schema-kept more k p rest)

none-by : (bytes : List ℕ) (read : Result SchemaRead Cause) → (by bytes read).schema ≡ None
    → (by bytes read).batches ≡ []
none-by bytes (Err cause) is = refl
none-by bytes (Ok schema) is =
    let kept = schema-kept (length bytes + 1) (known_by schema) schema.size (drop schema.size bytes) in
    absurd (cc (kept, is))

-- Without a schema no batch is read.
pub no-schema-no-batch : (bytes : List ℕ) → (reading_of bytes).schema ≡ None
    → (reading_of bytes).batches ≡ []
no-schema-no-batch bytes is = none-by bytes (first_schema bytes) is

front-none : (first more : List (List (List Cell))) → first ++ more ≡ [] → first ≡ []
front-none [] more is = refl
front-none (rows ∷ first) more is = absurd cc

-- So no rows are read while no schema is.
pub no-rows-yet : (fed : List ℕ) (reader : Standing) (rows : List (List Cell))
    → ReadSoFar fed reader rows → IsWaiting reader → reader.known ≡ None → rows ≡ []
no-rows-yet fed reader rows so waits none =
    let all : reading_of fed ≡ behind so.batches (still_read reader []) =
    ap reading_of (sym (append-nil fed)) ∙ so.goes_on [] in
    let bare : (reading_of fed).schema ≡ None =
    ap (λ (r : Reading). r.schema) all
    ∙ ap (λ (r : Reading). r.schema) (end-is-told reader waits)
    ∙ ap schema_of none in
    let empty : so.batches ++ (still_read reader []).batches ≡ [] =
    sym (ap (λ (r : Reading). r.batches) all) ∙ no-schema-no-batch fed bare in
    so.rows_are ∙ ap rows_of (front-none so.batches (still_read reader []).batches empty)

still-by : (known : Known) (place : ℕ) (begun : List ℕ) (at : Stand) (bytes : List ℕ)
    → (still_read (record { known = Some known; place = place; begun = begun; stand = at })
    bytes).schema
    ≡ Some (columns_in known)
still-by known place begun stand.Going bytes =
    schema-kept (length (begun ++ bytes) + 1) known place (begun ++ bytes)
still-by known place begun stand.Ended bytes = refl
still-by known place begun (stand.Stopped fault) bytes = refl

still-kept : (s : Standing) (known : Known) (bytes : List ℕ) → s.known ≡ Some known
    → (still_read s bytes).schema ≡ Some (columns_in known)
still-kept s known bytes is =
    ap (λ (k : Option Known). (still_read (record s { known = k }) bytes).schema) is
    ∙ still-by known s.place s.begun s.stand bytes

-- A schema that is known stays.
pub schema-stays-known : (Took : List (List Cell) → Type 0) (old new : Standing) (piece : List ℕ)
    (fault : Option StreamFault) (known : Known)
    → FeedsTo Took old new piece fault → IsWaiting new → old.known ≡ Some known
    → schema_of new.known ≡ Some (columns_in known)
schema-stays-known Took old new piece fault known feeds waits is =
    sym (ap (λ (r : Reading). r.schema) (end-is-told new waits))
    ∙ sym (ap (λ (r : Reading). r.schema) (feeds.goes_on []))
    ∙ still-kept old known (piece ++ []) is
