-- What the first bytes of a message say stays, whatever comes behind them.
use Rattle.std.proofs.Common.{◌≡◌, ℕ, zero, suc, ◌+◌, ◌^◌, ◌≤◌, Bool, true, false, List, [], ◌∷◌}
use Rattle.std.proofs.Common.{◌++◌, length, take, drop, refl, sym, ap, ◌∙◌, arith, subst}
use Rattle.std.proofs.Common.{length-append, length-drop, Option, Some, None, Result, Ok, Err}
use Rattle.std.specs.Prelude.{nat_lt, nat_le, bytes_eq, ◌==◌}
use Rattle.std.proofs.lemmas.List.{take-append-le, drop-append-le, length-take-le}
use Rattle.std.proofs.lemmas.Bool.{le-leb, leb-true, true≢false, and_parts, eqb-true}
use Rattle.byteorder.specs.Numbers.{little_from-append}
use Rattle.arrow_spec.specs.declared.fields.Field.{Field}
use Rattle.arrow_spec.specs.Streams.{continuation}
use Rattle.flat_read.specs.Reading.{number_from}
use Rattle.stream_spec.specs.Checks.{◌>>=◌, fault_as, rule}
use Rattle.stream_spec.specs.Metadata.{fields_at, head_of}
use Rattle.stream_spec.specs.declared.message.Head.{Head}
use Rattle.stream_spec.specs.declared.fault.Cause.{Cause}
use Rattle.stream_spec.specs.declared.fault.Cause.TheVariants as cause
use Rattle.stream_spec.specs.declared.fault.MetaFault.{MetaFault}
use Rattle.stream_spec.specs.Streams.{Brought, Frame, Known, MessageRead, SchemaRead, brought_by}
use Rattle.stream_spec.specs.Streams.{cause_of, ended, first_schema, frame_of, framed}
use Rattle.stream_spec.specs.Streams.{framed_message, framed_schema, is_due, next_message, sized}
use Rattle.stream_pieces.specs.Pieces.{is_waiting, tells_end}

-- ---- numbers and pieces of longer bytes

-- as many bytes are there behind others too
longer : (n : ℕ) (bytes more : List ℕ) → nat_le n (length bytes) ≡ true
    → nat_le n (length (bytes ++ more)) ≡ true
longer n bytes more is = le-leb n (length (bytes
    ++ more)) (omega (arith, leb-true n (length bytes) is, length-append bytes more))

pub number-stays : (bytes more : List ℕ) (place width : ℕ) → place + width ≤ length bytes
    → number_from (bytes ++ more) place width ≡ number_from bytes place width
number-stays bytes more place width within =
    ap (λ (rest : List ℕ). number_from rest 0 width) (drop-append-le place bytes more (omega arith))
    ∙ little_from-append width (drop place bytes) more (omega (arith, length-drop place bytes))

-- ---- frames

-- more bytes behind a frame are more bytes behind its metadata
abbrev grown : List ℕ → Result Frame Cause → Result Frame Cause
grown more (Ok ended) = Ok ended
grown more (Ok (framed metadata rest)) = Ok (framed metadata (rest ++ more))
grown more (Err cause) = Err cause

-- the metadata, where its size is one and it is whole
abbrev whole_by : Bool → Bool → List ℕ → List ℕ → Result Frame Cause
whole_by positive whole metadata rest = do
  fits ← rule cause.Flat positive
  there ← rule cause.Short whole
  Ok (framed metadata rest)

whole-stays : (positive whole whole' : Bool) (metadata metadata' rest rest' more : List ℕ)
    → (whole ≡ true → (whole' ≡ true) × (metadata' ≡ metadata) × (rest' ≡ rest ++ more))
    → is_waiting (whole_by positive whole metadata rest) ≡ false
    → whole_by positive whole' metadata' rest' ≡ grown more (whole_by positive whole metadata rest)
whole-stays false whole whole' metadata metadata' rest rest' more same is = refl
whole-stays true false whole' metadata metadata' rest rest' more same is = absurd (true≢false is)
whole-stays true true whole' metadata metadata' rest rest' more same is =
    let s = same refl in rw (s.0, s.1, s.2) refl

sized-stays : (first : Bool) (size : ℕ) (rest more : List ℕ) → is_waiting (sized first size rest)
    ≡ false
    → sized first size (rest ++ more) ≡ grown more (sized first size rest)
sized-stays true zero rest more is = absurd (true≢false is)
sized-stays false zero rest more is = refl
sized-stays first (suc less) rest more is =
    whole-stays (nat_lt (suc less) (2 ^ 31)) (nat_le (suc less) (length rest))
    (nat_le (suc less) (length (rest ++ more)))
    (take (suc less) rest) (take (suc less) (rest
    ++ more)) (drop (suc less) rest) (drop (suc less) (rest ++ more)) more
    (λ whole. let fits = leb-true (suc less) (length rest) whole in (
      longer (suc less) rest more whole,
      take-append-le (suc less) rest more fits,
      drop-append-le
          (suc less) rest more fits,
    ))
    is

-- the first eight bytes, and what stands behind them
abbrev front_by : Bool → Bool → Bool → Result Frame Cause → Result Frame Cause
front_by four marker eight behind = do
  some ← rule cause.Short four
  marked ← rule cause.Marker marker
  told ← rule cause.Short eight
  behind

front-stays : (four marker eight four' marker' eight' : Bool) (behind behind' : Result Frame Cause)
    (more : List ℕ)
    → (four ≡ true → (four' ≡ true) × (marker' ≡ marker))
    → (eight ≡ true → (eight' ≡ true) × (is_waiting behind ≡ false → behind' ≡ grown more behind))
    → is_waiting (front_by four marker eight behind) ≡ false
    → front_by four' marker' eight' behind' ≡ grown more (front_by four marker eight behind)
front-stays false marker eight four' marker' eight' behind behind' more one two is = absurd
    (true≢false is)
front-stays true false eight four' marker' eight' behind behind' more one two is = let o = one
    refl in rw (o.0, o.1) refl
front-stays true true false four' marker' eight' behind behind' more one two is = absurd
    (true≢false is)
front-stays true true true four' marker' eight' behind behind' more one two is =
    let o = one refl in let t = two refl in rw (o.0, o.1, t.0) (t.1 is)

frame-stays : (first : Bool) (byte : ℕ) (bytes more : List ℕ)
    → is_waiting (frame_of first (byte ∷ bytes)) ≡ false
    → frame_of first ((byte ∷ bytes) ++ more) ≡ grown more (frame_of first (byte ∷ bytes))
frame-stays first byte bytes more is =
    let all : List ℕ = byte ∷ bytes in
    let long : List ℕ = all ++ more in
    front-stays (nat_le 4 (length all)) (bytes_eq (take 4 all) continuation) (nat_le 8 (length all))
    (nat_le 4 (length long)) (bytes_eq (take 4 long) continuation) (nat_le 8 (length long))
    (sized first (number_from all 4 4) (drop 8 all))
    (sized first (number_from long 4 4) (drop 8 long)) more
    (λ four. (
      longer 4 all more four,
      ap (λ (b : List ℕ). bytes_eq b continuation)
          (take-append-le 4 all more (leb-true 4 (length all) four)),
    ))
    (λ eight. let fits = leb-true 8 (length all) eight in (
      longer 8 all more eight,
      λ settled.
          ap (λ (n : ℕ). sized first n (drop 8 long))
          (number-stays all more 4 4 (omega (arith, fits)))
          ∙ ap (sized first (number_from all 4 4)) (drop-append-le 8 all more fits)
          ∙ sized-stays first (number_from all 4 4) (drop 8 all) more settled,
    ))
    is

-- ---- how long a frame is

abbrev Fills : ℕ → Result Frame Cause → Type 0
Fills total (Ok ended) = Unit {0}
Fills total (Ok (framed metadata rest)) = 8 + length metadata + length rest ≡ total
Fills total (Err cause) = Unit {0}

whole-fills : (positive whole : Bool) (metadata rest : List ℕ) (total : ℕ)
    → (whole ≡ true → 8 + length metadata + length rest ≡ total)
    → Fills total (whole_by positive whole metadata rest)
whole-fills false whole metadata rest total is = tt
whole-fills true false metadata rest total is = tt
whole-fills true true metadata rest total is = is refl

sized-fills : (first : Bool) (size : ℕ) (rest : List ℕ)
    → Fills (8 + length rest) (sized first size rest)
sized-fills true zero rest = tt
sized-fills false zero rest = tt
sized-fills first (suc less) rest =
    whole-fills (nat_lt (suc less) (2 ^ 31)) (nat_le (suc less) (length rest))
    (take (suc less) rest) (drop (suc less) rest) (8 + length rest)
    (λ whole. let fits = leb-true (suc less) (length rest) whole in
    omega (arith, length-take-le (suc less) rest fits, length-drop (suc less) rest, fits))

front-fills : (four marker eight : Bool) (behind : Result Frame Cause) (total : ℕ)
    → (eight ≡ true → Fills total behind) → Fills total (front_by four marker eight behind)
front-fills false marker eight behind total is = tt
front-fills true false eight behind total is = tt
front-fills true true false behind total is = tt
front-fills true true true behind total is = is refl

frame-fills : (first : Bool) (bytes : List ℕ) → Fills (length bytes) (frame_of first bytes)
frame-fills true [] = tt
frame-fills false [] = tt
frame-fills first (byte ∷ bytes) =
    let all : List ℕ = byte ∷ bytes in
    front-fills (nat_le 4 (length all)) (bytes_eq (take 4 all) continuation) (nat_le 8 (length all))
    (sized first (number_from all 4 4) (drop 8 all)) (length all)
    (λ eight. let fits = leb-true 8 (length all) eight in
    subst (λ (n : ℕ). Fills n (sized first (number_from all 4 4) (drop 8 all)))
    (omega (arith, length-drop 8 all, fits))
    (sized-fills first (number_from all 4 4) (drop 8 all)))

-- ---- heads

abbrev body_by : Head → Bool → Bool → Result Head Cause
body_by head due whole = do
  kind ← rule cause.Shape due
  body ← rule cause.Short whole
  Ok head

abbrev head_by : Bool → List ℕ → Result Head MetaFault → Result Head Cause
head_by first rest read = do
  head ← fault_as cause_of read
  body_by head (is_due first head.kind) (nat_le head.body (length rest))

body-stays : (head : Head) (due whole whole' : Bool) → (whole ≡ true → whole' ≡ true)
    → is_waiting (body_by head due whole) ≡ false → body_by head due whole' ≡ body_by head due whole
body-stays head false whole whole' same is = refl
body-stays head true false whole' same is = absurd (true≢false is)
body-stays head true true whole' same is = rw (same refl) refl

head-stays : (first : Bool) (rest more : List ℕ) (read : Result Head MetaFault)
    → is_waiting (head_by first rest read) ≡ false → head_by first (rest ++ more) read
    ≡ head_by first rest read
head-stays first rest more (Err fault) is = refl
head-stays first rest more (Ok head) is =
    body-stays head (is_due first head.kind) (nat_le head.body (length rest))
    (nat_le head.body (length (rest ++ more))) (longer head.body rest more) is

abbrev Within : ℕ → Result Head Cause → Type 0
Within n (Ok head) = head.body ≤ n
Within n (Err cause) = Unit {0}

body-within : (head : Head) (due whole : Bool) (n : ℕ) → (whole ≡ true → head.body ≤ n)
    → Within n (body_by head due whole)
body-within head false whole n is = tt
body-within head true false n is = tt
body-within head true true n is = is refl

head-within : (first : Bool) (rest : List ℕ) (read : Result Head MetaFault)
    → Within (length rest) (head_by first rest read)
head-within first rest (Err fault) = tt
head-within first rest (Ok head) = body-within head (is_due first head.kind)
    (nat_le head.body (length rest)) (length rest) (leb-true head.body (length rest))

-- ---- later messages

-- what is made of what a message brings
abbrev message_of_size : ℕ → Result Brought Cause → Result (Option MessageRead) Cause
message_of_size size read = do
  brought ← read
  Ok (Some (record { batches = brought.batches; known = brought.known; size = size }))

abbrev message_by : Known → List ℕ → List ℕ → Result Head Cause → Result (Option MessageRead) Cause
message_by known metadata rest read = do
  head ← read
  brought ← brought_by head.kind known metadata head.header (take head.body rest)
  Ok (Some (record {
    batches = brought.batches;
    known = brought.known;
    size = 8 + length metadata + head.body;
  }))

message-same : (known : Known) (metadata rest more : List ℕ) (read : Result Head Cause)
    → Within (length rest) read
    → message_by known metadata (rest ++ more) read ≡ message_by known metadata rest read
message-same known metadata rest more (Err cause) fits = refl
message-same known metadata rest more (Ok head) fits =
    ap (λ (body : List ℕ). message_of_size (8 + length metadata + head.body)
    (brought_by head.kind known metadata head.header body))
    (take-append-le head.body rest more fits)

-- a step that waits makes what follows wait
pub step-waits : {A B : Type 0} (read : Result A Cause) (next : A → Result B Cause)
    → is_waiting (read >>= next) ≡ false → is_waiting read ≡ false
step-waits (Ok value) next is = refl
step-waits (Err cause.Short) next is = is
step-waits (Err cause.Marker) next is = refl
step-waits (Err cause.Flat) next is = refl
step-waits (Err cause.Version) next is = refl
step-waits (Err cause.Dictionary) next is = refl
step-waits (Err cause.Kind) next is = refl
step-waits (Err cause.Shape) next is = refl
step-waits (Err cause.Endian) next is = refl
step-waits (Err cause.Utf8) next is = refl
step-waits (Err cause.Compressed) next is = refl
step-waits (Err cause.Buffer) next is = refl
step-waits (Err cause.NullCount) next is = refl
step-waits (Err cause.Offsets) next is = refl

framed-stays : (known : Known) (more : List ℕ) (frame : Result Frame Cause)
    → is_waiting (frame >>= framed_message known) ≡ false
    → (grown more frame >>= framed_message known) ≡ (frame >>= framed_message known)
framed-stays known more (Err cause) is = refl
framed-stays known more (Ok ended) is = refl
framed-stays known more (Ok (framed metadata rest)) is =
    let head : Result Head Cause = head_by false rest (head_of metadata) in
    ap (message_by known metadata (rest ++ more))
    (head-stays false rest more (head_of metadata)
    (step-waits head
    (λ h. message_of_size (8 + length metadata + h.body)
    (brought_by h.kind known metadata h.header (take h.body rest))) is))
    ∙ message-same known metadata rest more head (head-within false rest (head_of metadata))

-- What the first bytes of a message say stays.
pub message-stays : (known : Known) (byte : ℕ) (bytes more : List ℕ)
    → is_waiting (next_message known (byte ∷ bytes)) ≡ false
    → next_message known ((byte ∷ bytes) ++ more) ≡ next_message known (byte ∷ bytes)
message-stays known byte bytes more is =
    let frame : Result Frame Cause = frame_of false (byte ∷ bytes) in
    ap (λ (f : Result Frame Cause). f >>= framed_message known)
    (frame-stays false byte bytes more (step-waits frame (framed_message known) is))
    ∙ framed-stays known more frame is

-- ---- schemas

abbrev schema_by : List ℕ → Result Head Cause → Result SchemaRead Cause
schema_by metadata read = do
  head ← read
  fields ← fault_as cause_of (fields_at metadata head.header)
  Ok (record { fields = fields; size = 8 + length metadata + head.body })

framed-schema-stays : (more : List ℕ) (frame : Result Frame Cause)
    → is_waiting (frame >>= framed_schema) ≡ false
    → (grown more frame >>= framed_schema) ≡ (frame >>= framed_schema)
framed-schema-stays more (Err cause) is = refl
framed-schema-stays more (Ok ended) is = refl
framed-schema-stays more (Ok (framed metadata rest)) is =
    let head : Result Head Cause = head_by true rest (head_of metadata) in
    ap (schema_by metadata)
    (head-stays true rest more (head_of metadata)
    (step-waits head
    (λ h. fault_as cause_of (fields_at metadata h.header) >>= λ fields. Ok
    (record { fields = fields; size = 8 + length metadata + h.body })) is))

-- What the first bytes of a schema's message say stays.
pub schema-stays : (byte : ℕ) (bytes more : List ℕ) → is_waiting (first_schema (byte ∷ bytes))
    ≡ false
    → first_schema ((byte ∷ bytes) ++ more) ≡ first_schema (byte ∷ bytes)
schema-stays byte bytes more is =
    let frame : Result Frame Cause = frame_of true (byte ∷ bytes) in
    ap (λ (f : Result Frame Cause). f >>= framed_schema)
    (frame-stays true byte bytes more (step-waits frame framed_schema is))
    ∙ framed-schema-stays more frame is

-- ---- sizes

abbrev pub Inside : ℕ → Result (Option MessageRead) Cause → Type 0
Inside total (Err cause) = Unit {0}
Inside total (Ok None) = Unit {0}
Inside total (Ok (Some message)) = (8 ≤ message.size) × (message.size ≤ total)

brought-inside : (total size : ℕ) (read : Result Brought Cause) → 8 ≤ size → size ≤ total
    → Inside total (message_of_size size read)
brought-inside total size (Err cause) some few = tt
brought-inside total size (Ok brought) some few = (some, few)

head-inside : (known : Known) (metadata rest : List ℕ) (total : ℕ) (read : Result Head Cause)
    → 8 + length metadata + length rest ≡ total
    → Within (length rest) read → Inside total (message_by known metadata rest read)
head-inside known metadata rest total (Err cause) fills fits = tt
head-inside known metadata rest total (Ok head) fills fits =
    brought-inside total (8 + length metadata + head.body)
    (brought_by head.kind known metadata head.header (take head.body rest)) (omega arith)
    (omega (arith, fills, fits))

framed-inside : (known : Known) (total : ℕ) (frame : Result Frame Cause) → Fills total frame
    → Inside total (frame >>= framed_message known)
framed-inside known total (Err cause) fills = tt
framed-inside known total (Ok ended) fills = tt
framed-inside known total (Ok (framed metadata rest)) fills =
    head-inside known metadata rest total (head_by false rest (head_of metadata)) fills
    (head-within false rest (head_of metadata))

-- A message has its first eight bytes, and lies in the bytes.
pub message-inside : (known : Known) (bytes : List ℕ)
    → Inside (length bytes) (next_message known bytes)
message-inside known bytes = framed-inside known (length bytes) (frame_of false bytes)
    (frame-fills false bytes)

pub inside-at : (total : ℕ) (read : Result (Option MessageRead) Cause) (message : MessageRead)
    → read ≡ Ok (Some message) → Inside total read
    → (8 ≤ message.size) × (message.size ≤ total)
inside-at total read message is inside = subst (Inside total) is inside

-- ---- a schema's size

abbrev pub SchemaInside : ℕ → Result SchemaRead Cause → Type 0
SchemaInside total (Err cause) = Unit {0}
SchemaInside total (Ok schema) = schema.size ≤ total

fields-inside : (total size : ℕ) (read : Result (List Field) Cause) → size ≤ total
    → SchemaInside total (read >>= λ fields. Ok (record { fields = fields; size = size }))
fields-inside total size (Err cause) few = tt
fields-inside total size (Ok fields) few = few

schema-head-inside : (metadata rest : List ℕ) (total : ℕ) (read : Result Head Cause)
    → 8 + length metadata + length rest ≡ total → Within (length rest) read
    → SchemaInside total (schema_by metadata read)
schema-head-inside metadata rest total (Err cause) fills fits = tt
schema-head-inside metadata rest total (Ok head) fills fits =
    fields-inside total (8 + length metadata + head.body)
    (fault_as cause_of (fields_at metadata head.header)) (omega (arith, fills, fits))

framed-schema-inside : (total : ℕ) (frame : Result Frame Cause) → Fills total frame
    → SchemaInside total (frame >>= framed_schema)
framed-schema-inside total (Err cause) fills = tt
framed-schema-inside total (Ok ended) fills = tt
framed-schema-inside total (Ok (framed metadata rest)) fills =
    schema-head-inside metadata rest total (head_by true rest (head_of metadata)) fills
    (head-within true rest (head_of metadata))

-- A schema's message lies in the bytes.
pub schema-inside : (bytes : List ℕ) (schema : SchemaRead) → first_schema bytes ≡ Ok schema
    → schema.size ≤ length bytes
schema-inside bytes schema is = subst (SchemaInside (length bytes)) is
    (framed-schema-inside (length bytes) (frame_of true bytes) (frame-fills true bytes))

-- ---- the end word in front of a schema

sized-end : (size : ℕ) (rest : List ℕ) → size ≡ 0 → sized true size rest ≡ Err cause.Short
sized-end size rest is = ap (λ (n : ℕ). sized true n rest) is

-- a front of eight bytes that waits, or tells no metadata: its marker is one, or the fault is another
front-short : (marker : Bool) (behind : Result Frame Cause) → behind ≡ Err cause.Short
    → (front_by true marker true behind >>= framed_schema) ≡ Err cause.Short → marker ≡ true
front-short true behind short is = refl
front-short false behind short is = absurd (true≢false (sym (ap is_waiting is)))

-- An end word in front of the schema stays the fault.
pub end-stays : (byte : ℕ) (bytes more : List ℕ) → first_schema (byte ∷ bytes) ≡ Err cause.Short
    → tells_end (byte ∷ bytes) ≡ true
    → first_schema ((byte ∷ bytes) ++ more) ≡ Err cause.Short
end-stays byte bytes more is end =
    let all : List ℕ = byte ∷ bytes in
    let long : List ℕ = all ++ more in
    let parts = and_parts (nat_le 8 (length all)) (number_from all 4 4 == 0) end in
    let fits : 8 ≤ length all = leb-true 8 (length all) parts.0 in
    let zero_size : number_from all 4 4 ≡ 0 = eqb-true (number_from all 4 4) 0 parts.1 in
    let four : nat_le 4 (length all) ≡ true = le-leb 4 (length all) (omega (arith, fits)) in
    let behind : sized true (number_from all 4 4) (drop 8 all)
    ≡ Err cause.Short = sized-end (number_from all 4 4) (drop 8 all) zero_size in
    let marked : bytes_eq (take 4 all) continuation ≡ true =
    front-short (bytes_eq (take 4 all) continuation) (sized true (number_from all 4 4) (drop 8 all))
    behind
    (ap (λ (a : Bool). front_by a (bytes_eq (take 4 all) continuation) true
    (sized true (number_from all 4 4) (drop 8 all)) >>= framed_schema) (sym four)
    ∙ ap (λ (b : Bool). front_by (nat_le 4 (length all)) (bytes_eq (take 4 all) continuation) b
    (sized true (number_from all 4 4) (drop 8 all)) >>= framed_schema) (sym parts.0) ∙ is) in
    let mark : bytes_eq (take 4 long) continuation
    ≡ true = ap (λ (b : List ℕ). bytes_eq b continuation)
    (take-append-le 4 all more (omega (arith, fits))) ∙ marked in
    let size : number_from long 4 4 ≡ 0 = number-stays all more 4 4 (omega (arith, fits))
    ∙ zero_size in
    ap (λ (f : Result Frame Cause). f >>= framed_schema)
    (ap (λ (a : Bool). front_by a (bytes_eq (take 4 long) continuation) (nat_le 8 (length long))
    (sized true (number_from long 4 4) (drop 8 long))) (longer 4 all more four)
    ∙ ap (λ (m : Bool). front_by true m (nat_le 8 (length long))
    (sized true (number_from long 4 4) (drop 8 long))) mark
    ∙ ap (λ (b : Bool). front_by true true b (sized true (number_from long 4 4) (drop 8 long)))
    (longer 8 all more parts.0)
    ∙ sized-end (number_from long 4 4) (drop 8 long) size)
