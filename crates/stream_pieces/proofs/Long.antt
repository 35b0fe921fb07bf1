-- Enough bytes decide a message: none is short.
use Rattle.std.proofs.Common.{◌≡◌, ℕ, zero, suc, ◌+◌, ◌^◌, ◌<◌, ◌≤◌, Bool, true, false, List, []}
use Rattle.std.proofs.Common.{◌∷◌, ◌++◌, length, take, drop, replicate, refl, sym, subst, arith}
use Rattle.std.proofs.Common.{length-append, length-drop, Option, Some, None, Result, Ok, Err}
use Rattle.std.specs.Prelude.{nat_lt, nat_le, bytes_eq, not, ◌==◌, ◌&&◌, ◌||◌, ℤ, pos, map}
use Rattle.std.specs.List.{list_all}
use Rattle.std.specs.Ordering.{int_eq}
use Rattle.std.proofs.lemmas.List.{length-replicate}
use Rattle.std.proofs.lemmas.Bool.{le-leb, ltb-true, true≢false, not-true, not-false}
use Rattle.cell_model.specs.Kinds.{values_of}
use Rattle.cell_model.specs.declared.cell.Cell.{Cell}
use Rattle.cell_model.specs.declared.kind.Kind.{Kind}
use Rattle.cell_model.specs.declared.values.Values.{Values}
use Rattle.arrow_spec.specs.Streams.{continuation}
use Rattle.arrow_spec.specs.declared.fields.Encoding.{Encoding}
use Rattle.arrow_spec.specs.declared.fields.Field.{Field}
use Rattle.flat_read.specs.Reading.{number_from}
use Rattle.flat_read.specs.declared.FlatFault.{FlatFault}
use Rattle.stream_spec.specs.Checks.{◌>>=◌, fault_as, or_fault, rule}
use Rattle.stream_spec.specs.Columns.{Dictionary, are_buffers, bytes_of, buffer_count, cells_by}
use Rattle.stream_spec.specs.Columns.{cells_in, cells_of, column_of, columns_of, data_count, field_cells}
use Rattle.stream_spec.specs.Columns.{data_needs, has_offsets, is_place_in, is_text, is_validity}
use Rattle.stream_spec.specs.Columns.{null_count_of, rows_of, stored_kind, values_field, values_in}
use Rattle.stream_spec.specs.Columns.{values_with}
use Rattle.stream_spec.specs.Metadata.{BatchTable, batch_at, dictionary_at, fields_at, head_of}
use Rattle.stream_spec.specs.Metadata.{is_negative, kind_of_header, message_table_at}
use Rattle.stream_spec.specs.declared.message.BufferPlace.{BufferPlace}
use Rattle.stream_spec.specs.declared.message.FieldNode.{FieldNode}
use Rattle.stream_spec.specs.declared.message.Head.{Head}
use Rattle.stream_spec.specs.declared.message.HeadKind.{HeadKind}
use Rattle.stream_spec.specs.declared.message.HeadKind.TheVariants as kind
use Rattle.stream_spec.specs.declared.message.MessageTable.{MessageTable}
use Rattle.stream_spec.specs.declared.fault.Cause.{Cause}
use Rattle.stream_spec.specs.declared.fault.Cause.TheVariants as cause
use Rattle.stream_spec.specs.declared.fault.MetaFault.{MetaFault}
use Rattle.stream_spec.specs.declared.fault.MetaFault.TheVariants as meta
use Rattle.stream_spec.specs.Streams.{Frame, Known, brought_by, cause_of, ended, first_schema}
use Rattle.stream_spec.specs.Streams.{frame_of, framed, framed_message, framed_schema, is_due}
use Rattle.stream_spec.specs.Streams.{kind_with, next_message, sized}
use Rattle.stream_pieces.specs.Pieces.{is_waiting}

-- ---- what never waits

bind : {A B : Type 0} (read : Result A Cause) (next : A → Result B Cause) → is_waiting read ≡ false
    → ((value : A) → is_waiting (next value) ≡ false) → is_waiting (read >>= next) ≡ false
bind (Ok value) next is each = each value
bind (Err cause.Short) next is each = absurd (true≢false is)
bind (Err cause.Marker) next is each = refl
bind (Err cause.Flat) next is each = refl
bind (Err cause.Version) next is each = refl
bind (Err cause.Dictionary) next is each = refl
bind (Err cause.Kind) next is each = refl
bind (Err cause.Shape) next is each = refl
bind (Err cause.Endian) next is each = refl
bind (Err cause.Utf8) next is each = refl
bind (Err cause.Compressed) next is each = refl
bind (Err cause.Buffer) next is each = refl
bind (Err cause.NullCount) next is each = refl
bind (Err cause.Offsets) next is each = refl

ruled : (c : Cause) (holds : Bool) → is_waiting {A = Unit {0}} (Err c) ≡ false
    → is_waiting (rule c holds) ≡ false
ruled c true is = refl
ruled c false is = is

told : {A : Type 0} (read : Result A MetaFault) → is_waiting (fault_as cause_of read) ≡ false
told (Ok value) = refl
told (Err (meta.Flat fault)) = refl
told (Err meta.Version) = refl
told (Err meta.Dictionary) = refl
told (Err meta.Kind) = refl
told (Err meta.Shape) = refl
told (Err meta.Endian) = refl
told (Err meta.Utf8) = refl
told (Err meta.Compressed) = refl

column-told : (body : List ℕ) (rows : ℕ) (values : Values) (nulls : ℤ) (validity : BufferPlace)
    (buffers : List BufferPlace) → is_waiting (column_of body rows values nulls validity buffers)
    ≡ false
column-told body rows values nulls validity buffers =
    bind (rule cause.Buffer
    (is_validity body rows validity && are_buffers body rows (data_needs values rows) buffers))
    _ (ruled cause.Buffer _ refl)
    (λ a. bind
    (rule cause.NullCount (int_eq nulls (pos (null_count_of (bytes_of body validity) rows)))) _
    (ruled cause.NullCount _ refl)
    (λ b. bind (rule cause.Offsets (has_offsets values (map (bytes_of body) buffers) rows)) _
    (ruled cause.Offsets _ refl)
    (λ c. bind
    (rule cause.Utf8
    (list_all is_text
    (cells_of values (bytes_of body validity) (map (bytes_of body) buffers) rows))) _
    (ruled cause.Utf8 _ refl) (λ d. refl))))

cells-told : (encoding : Option Encoding) (dictionaries : List Dictionary) (stored : List Cell)
    → is_waiting (cells_by encoding dictionaries stored) ≡ false
cells-told None dictionaries stored = refl
cells-told (Some encoding) dictionaries stored =
    bind (rule cause.Dictionary
    (list_all (is_place_in (values_with encoding.id dictionaries)) stored)) _
    (ruled cause.Dictionary _ refl) (λ inside. refl)

field-told : (body : List ℕ) (rows : ℕ) (dictionaries : List Dictionary) (field : Field) (nulls : ℤ)
    (validity : BufferPlace) (buffers : List BufferPlace)
    → is_waiting (field_cells body rows dictionaries field nulls validity buffers) ≡ false
field-told body rows dictionaries field nulls validity buffers =
    bind (column_of body rows (values_of (stored_kind field)) nulls validity buffers) _
    (column-told body rows (values_of (stored_kind field)) nulls validity buffers)
    (λ stored. cells-told field.encoding dictionaries stored)

columns-told : (body : List ℕ) (rows : ℕ) (dictionaries : List Dictionary) (fields : List Field)
    (nodes : List FieldNode) (buffers : List BufferPlace)
    → is_waiting (columns_of body rows dictionaries fields nodes buffers) ≡ false
columns-told body rows dictionaries [] nodes buffers = refl
columns-told body rows dictionaries (field ∷ fields) [] buffers = refl
columns-told body rows dictionaries (field ∷ fields) (node ∷ nodes) [] = refl
columns-told body rows dictionaries (field ∷ fields) (node ∷ nodes) (validity ∷ buffers) =
    let many : ℕ = data_count (values_of (stored_kind field)) in
    bind (field_cells body rows dictionaries field node.null_count validity (take many buffers)) _
    (field-told body rows dictionaries field node.null_count validity (take many buffers))
    (λ cells. bind (columns_of body rows dictionaries fields nodes (drop many buffers)) _
    (columns-told body rows dictionaries fields nodes (drop many buffers)) (λ rest. refl))

all-cells-told : (dictionaries : List Dictionary) (fields : List Field) (batch : BatchTable)
    (body : List ℕ) → is_waiting (cells_in dictionaries fields batch body) ≡ false
all-cells-told dictionaries fields batch body =
    bind (rule cause.Shape (length batch.nodes == length fields)) _ (ruled cause.Shape _ refl)
    (λ a. bind (rule cause.Shape (length batch.buffers == buffer_count fields)) _
    (ruled cause.Shape _ refl)
    (λ b. bind
    (rule cause.Shape (list_all (λ node. int_eq node.length (pos batch.rows)) batch.nodes)) _
    (ruled cause.Shape _ refl)
    (λ c. columns-told body batch.rows dictionaries fields batch.nodes batch.buffers)))

rows-told : (dictionaries : List Dictionary) (fields : List Field) (batch : BatchTable)
    (body : List ℕ) → is_waiting (rows_of dictionaries fields batch body) ≡ false
rows-told dictionaries fields batch body =
    bind (cells_in dictionaries fields batch body) _
    (all-cells-told dictionaries fields batch body) (λ cells. refl)

came-told : (kind : Kind) (batch : BatchTable) (body : List ℕ)
    → is_waiting (values_in kind batch body) ≡ false
came-told kind batch body =
    bind (cells_in [] (values_field kind ∷ []) batch body) _
    (all-cells-told [] (values_field kind ∷ []) batch body) (λ cells. refl)

some-told : {A : Type 0} (c : Cause) (value : Option A) → is_waiting {A = A} (Err c) ≡ false
    → is_waiting (or_fault c value) ≡ false
some-told c None is = is
some-told c (Some value) is = refl

brought-told : (kind : HeadKind) (known : Known) (metadata : List ℕ) (table : ℕ) (body : List ℕ)
    → is_waiting (brought_by kind known metadata table body) ≡ false
brought-told kind.Schema known metadata table body = refl
brought-told kind.Dictionary known metadata table body =
    bind (fault_as cause_of (dictionary_at metadata table)) _ (told (dictionary_at metadata table))
    (λ dictionary. bind (or_fault cause.Dictionary (kind_with dictionary.id known.fields)) _
    (some-told cause.Dictionary (kind_with dictionary.id known.fields) refl)
    (λ kind. bind (fault_as cause_of (batch_at metadata dictionary.values)) _
    (told (batch_at metadata dictionary.values))
    (λ batch. bind (values_in kind batch body) _ (came-told kind batch body)
    (λ came. refl))))
brought-told kind.Batch known metadata table body =
    bind (fault_as cause_of (batch_at metadata table)) _ (told (batch_at metadata table))
    (λ batch. bind (rows_of known.dictionaries known.fields batch body) _
    (rows-told known.dictionaries known.fields batch body) (λ rows. refl))

-- ---- heads

abbrev Small : Result Head MetaFault → Type 0
Small (Ok head) = head.body < 2 ^ 63
Small (Err fault) = Unit {0}

abbrev head_with : MessageTable → Bool → Option HeadKind → Option ℕ → Bool
    → Result Head MetaFault
head_with message version kind header body = do
  v ← rule meta.Version version
  k ← or_fault meta.Kind kind
  h ← or_fault meta.Shape header
  b ← rule meta.Shape body
  Ok (record { kind = k; header = h; body = message.body })

head-small : (message : MessageTable) (version : Bool) (kind : Option HeadKind)
    (header : Option ℕ) (body : Bool) → (body ≡ true → message.body < 2 ^ 63)
    → Small (head_with message version kind header body)
head-small message false kind header body is = tt
head-small message true None header body is = tt
head-small message true (Some k) None body is = tt
head-small message true (Some k) (Some h) false is = tt
head-small message true (Some k) (Some h) true is = is refl

abbrev head_from : Result MessageTable FlatFault → Result Head MetaFault
head_from read = fault_as meta.Flat read >>= λ message.
    head_with message (message.version == 3 || message.version == 4)
    (kind_of_header message.header_type) message.header
    (not (is_negative message.body))

from-small : (read : Result MessageTable FlatFault) → Small (head_from read)
from-small (Err fault) = tt
from-small (Ok message) =
    head-small message (message.version == 3 || message.version == 4)
    (kind_of_header message.header_type) message.header
    (not (is_negative message.body))
    (λ is. ltb-true message.body (2 ^ 63)
    (not-false (nat_lt message.body (2 ^ 63)) (not-true (is_negative message.body) is)))

abbrev head_by : Bool → List ℕ → Result Head MetaFault → Result Head Cause
head_by first rest read = do
  head ← fault_as cause_of read
  due ← rule cause.Shape (is_due first head.kind)
  body ← rule cause.Short (nat_le head.body (length rest))
  Ok head

whole-told : (head : Head) (whole : Bool) → whole ≡ true
    → is_waiting (rule cause.Short whole >>= λ (body : Unit {0}). Ok head) ≡ false
whole-told head true is = refl
whole-told head false is = absurd (true≢false (sym is))

head-told : (first : Bool) (rest : List ℕ) (read : Result Head MetaFault) → 2 ^ 63 ≤ length rest
    → Small read → is_waiting (head_by first rest read) ≡ false
head-told first rest (Err (meta.Flat fault)) long small = refl
head-told first rest (Err meta.Version) long small = refl
head-told first rest (Err meta.Dictionary) long small = refl
head-told first rest (Err meta.Kind) long small = refl
head-told first rest (Err meta.Shape) long small = refl
head-told first rest (Err meta.Endian) long small = refl
head-told first rest (Err meta.Utf8) long small = refl
head-told first rest (Err meta.Compressed) long small = refl
head-told first rest (Ok head) long small =
    bind (rule cause.Shape (is_due first head.kind)) _ (ruled cause.Shape _ refl)
    (λ kind. whole-told head (nat_le head.body (length rest))
    (le-leb head.body (length rest) (omega (arith, long, small))))

-- ---- frames

-- a frame that is decided, with a long rest
abbrev Long : Result Frame Cause → Type 0
Long (Ok ended) = Unit {0}
Long (Ok (framed metadata rest)) = 2 ^ 63 ≤ length rest
Long (Err c) = is_waiting {A = Unit {0}} (Err c) ≡ false

abbrev whole_by : Bool → Bool → List ℕ → List ℕ → Result Frame Cause
whole_by positive whole metadata rest = do
  fits ← rule cause.Flat positive
  there ← rule cause.Short whole
  Ok (framed metadata rest)

whole-long : (positive whole : Bool) (metadata rest : List ℕ)
    → (positive ≡ true → (whole ≡ true) × (2 ^ 63 ≤ length rest))
    → Long (whole_by positive whole metadata rest)
whole-long false whole metadata rest is = refl
whole-long true false metadata rest is = absurd (true≢false (sym (is refl).0))
whole-long true true metadata rest is = (is refl).1

sized-long : (size : ℕ) (rest : List ℕ) → 2 ^ 63 + 2 ^ 31 ≤ length rest
    → Long (sized false size rest)
sized-long zero rest long = tt
sized-long (suc less) rest long =
    whole-long (nat_lt (suc less) (2 ^ 31)) (nat_le (suc less) (length rest)) (take (suc less) rest)
    (drop (suc less) rest)
    (λ positive. let few = ltb-true (suc less) (2 ^ 31) positive in (
      le-leb (suc less) (length rest) (omega (arith, few, long)),
      omega
          (arith, few, long, length-drop (suc less) rest),
    ))

first-long : (size : ℕ) (rest : List ℕ) → 2 ^ 63 + 2 ^ 31 ≤ length rest → (size ≡ 0 → ⊥)
    → Long (sized true size rest)
first-long zero rest long some = absurd (some refl)
first-long (suc less) rest long some = sized-long (suc less) rest long

abbrev front_by : Bool → Bool → Bool → Result Frame Cause → Result Frame Cause
front_by four marker eight behind = do
  some ← rule cause.Short four
  marked ← rule cause.Marker marker
  read ← rule cause.Short eight
  behind

front-long : (four marker eight : Bool) (behind : Result Frame Cause) → four ≡ true → eight ≡ true
    → Long behind → Long (front_by four marker eight behind)
front-long false marker eight behind one two long = absurd (true≢false (sym one))
front-long true false eight behind one two long = refl
front-long true true false behind one two long = absurd (true≢false (sym two))
front-long true true true behind one two long = long

frame-long : (first : Bool) (byte : ℕ) (bytes : List ℕ) → 2 ^ 64 ≤ length (byte ∷ bytes)
    → Long (sized first (number_from (byte ∷ bytes) 4 4) (drop 8 (byte ∷ bytes)))
    → Long (frame_of first (byte ∷ bytes))
frame-long first byte bytes long there =
    let all : List ℕ = byte ∷ bytes in
    front-long (nat_le 4 (length all)) (bytes_eq (take 4 all) continuation) (nat_le 8 (length all))
    (sized first (number_from all 4 4) (drop 8 all))
    (le-leb 4 (length all) (omega (arith, long))) (le-leb 8 (length all) (omega (arith, long)))
    there

-- ---- messages

message-told : (known : Known) (frame : Result Frame Cause) → Long frame
    → is_waiting (frame >>= framed_message known) ≡ false
message-told known (Ok ended) long = refl
message-told known (Ok (framed metadata rest)) long =
    bind (head_by false rest (head_of metadata)) _
    (head-told false rest (head_of metadata) long (from-small (message_table_at metadata)))
    (λ head. bind (brought_by head.kind known metadata head.header (take head.body rest)) _
    (brought-told head.kind known metadata head.header (take head.body rest)) (λ brought. refl))
message-told known (Err cause.Short) long = absurd (true≢false long)
message-told known (Err cause.Marker) long = refl
message-told known (Err cause.Flat) long = refl
message-told known (Err cause.Version) long = refl
message-told known (Err cause.Dictionary) long = refl
message-told known (Err cause.Kind) long = refl
message-told known (Err cause.Shape) long = refl
message-told known (Err cause.Endian) long = refl
message-told known (Err cause.Utf8) long = refl
message-told known (Err cause.Compressed) long = refl
message-told known (Err cause.Buffer) long = refl
message-told known (Err cause.NullCount) long = refl
message-told known (Err cause.Offsets) long = refl

-- Enough bytes are a message, an end or a fault.
pub message-decided : (known : Known) (byte : ℕ) (bytes : List ℕ)
    → 2 ^ 64 ≤ length (byte ∷ bytes) → is_waiting (next_message known (byte ∷ bytes)) ≡ false
message-decided known byte bytes long =
    message-told known (frame_of false (byte ∷ bytes))
    (frame-long false byte bytes long
    (sized-long (number_from (byte ∷ bytes) 4 4) (drop 8 (byte ∷ bytes))
    (omega (arith, long, length-drop 8 (byte ∷ bytes)))))

pub zeros : List ℕ
zeros = replicate (2 ^ 64) 0

pub length-zeros : length zeros ≡ 2 ^ 64
unfolding zeros
length-zeros = length-replicate {A = ℕ} (2 ^ 64) 0

-- What is short at the end of the input is not decided: there are bytes behind which it is something
-- else.
pub short-is-open : (known : Known) (byte : ℕ) (bytes : List ℕ) → (more : List ℕ)
    × (is_waiting (next_message known ((byte ∷ bytes) ++ more)) ≡ false)
short-is-open known byte bytes = (
  zeros,
  message-decided known byte (bytes
      ++ zeros) (omega (arith, length-append (byte ∷ bytes) zeros, length-zeros)),
)

-- ---- the schema

first-told : (frame : Result Frame Cause) → Long frame → (frame ≡ Ok ended → ⊥)
    → is_waiting (frame >>= framed_schema) ≡ false
first-told (Ok ended) long some = absurd (some refl)
first-told (Ok (framed metadata rest)) long some =
    bind (head_by true rest (head_of metadata)) _
    (head-told true rest (head_of metadata) long
    (from-small (message_table_at metadata)))
    (λ head. bind (fault_as cause_of (fields_at metadata head.header)) _
    (told (fields_at metadata head.header)) (λ fields. refl))
first-told (Err cause.Short) long some = absurd (true≢false long)
first-told (Err cause.Marker) long some = refl
first-told (Err cause.Flat) long some = refl
first-told (Err cause.Version) long some = refl
first-told (Err cause.Dictionary) long some = refl
first-told (Err cause.Kind) long some = refl
first-told (Err cause.Shape) long some = refl
first-told (Err cause.Endian) long some = refl
first-told (Err cause.Utf8) long some = refl
first-told (Err cause.Compressed) long some = refl
first-told (Err cause.Buffer) long some = refl
first-told (Err cause.NullCount) long some = refl
first-told (Err cause.Offsets) long some = refl

-- a first message has no end
abbrev Begins : Result Frame Cause → Type 0
Begins (Ok ended) = ⊥
Begins (Ok (framed metadata rest)) = Unit {0}
Begins (Err c) = Unit {0}

whole-begins : (positive whole : Bool) (metadata rest : List ℕ)
    → Begins (whole_by positive whole metadata rest)
whole-begins false whole metadata rest = tt
whole-begins true false metadata rest = tt
whole-begins true true metadata rest = tt

sized-begins : (size : ℕ) (rest : List ℕ) → Begins (sized true size rest)
sized-begins zero rest = tt
sized-begins (suc less) rest = whole-begins (nat_lt (suc less) (2 ^ 31))
    (nat_le (suc less) (length rest)) (take (suc less) rest) (drop (suc less) rest)

front-begins : (four marker eight : Bool) (behind : Result Frame Cause) → Begins behind
    → Begins (front_by four marker eight behind)
front-begins false marker eight behind is = tt
front-begins true false eight behind is = tt
front-begins true true false behind is = tt
front-begins true true true behind is = is

-- Enough first bytes that do not tell the end are a schema or a fault.
pub schema-decided : (byte : ℕ) (bytes : List ℕ) → 2 ^ 64 ≤ length (byte ∷ bytes)
    → (number_from (byte ∷ bytes) 4 4 ≡ 0 → ⊥) → is_waiting (first_schema (byte ∷ bytes)) ≡ false
schema-decided byte bytes long some =
    let all : List ℕ = byte ∷ bytes in
    let behind : Result Frame Cause = sized true (number_from all 4 4) (drop 8 all) in
    let begins : Begins (frame_of true all) = front-begins (nat_le 4 (length all))
    (bytes_eq (take 4 all) continuation) (nat_le 8 (length all)) behind
    (sized-begins (number_from all 4 4) (drop 8 all)) in
    first-told (frame_of true all)
    (frame-long true byte bytes long
    (first-long (number_from all 4 4) (drop 8 all) (omega (arith, long, length-drop 8 all)) some))
    (λ is. subst Begins is begins)
