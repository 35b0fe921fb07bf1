-- A message's table reads as the head that it was laid for.
use Rattle.std.proofs.Common.{◌≡◌, ℕ, ◌+◌, ◌-◌, ◌^◌, ◌<◌, ◌≤◌, true, List, [], ◌∷◌, ◌++◌, map, get_or, replicate, refl, ap, ◌∙◌, arith, lit<, Option, Some, None, Result, Ok}
use Rattle.std.specs.Prelude.{nat_lt}
use Rattle.std.proofs.lemmas.Bool.{lt-ltb}
use Rattle.std.specs.Int.{Width, w8, w16, w32, w64, byte_len, to_le_bytes}
use Rattle.arrow_spec.specs.Flatbuffers.{Laid, Field, number, reference, place_of, aligned, table}
use Rattle.arrow_spec.specs.Metadata.{Header, schema, record_batch, dictionary_batch, header_table, header_number, message_table, flatbuffer_of}
use Rattle.flat_read.specs.declared.FlatFault.{FlatFault}
use Rattle.flat_read.specs.Reading.{target_at, vector_at, text_at, entry_place, field_at}
use Rattle.stream_spec.specs.Checks.{◌>>=◌}
use Rattle.stream_spec.specs.declared.message.Elements.{Elements}
use Rattle.stream_spec.specs.declared.message.HeadKind.{HeadKind}
use Rattle.stream_spec.specs.Metadata.{number_or, scalar, target_of, reference as reference_at, elements_of, elements, text_or_empty, text, message_table_at, kind_of_header, head_of}
use Rattle.stream_laws.proofs.Pieces.{Has, has-left, has-right}
use Rattle.stream_laws.proofs.Tables.{IsTableAt, number-read, target-read, field-read, table-there}

-- ---- the fields of a table that is laid

-- a table's place is not before the end of what precedes it
pub table-behind : (end size : ℕ) (fields : List Field) → end ≤ (table size fields end).place
table-behind end size fields = omega arith

module _ (bytes : List ℕ) (end size : ℕ) (fields : List Field)
    (laid : IsTableAt bytes end size fields) where
  -- Where the table of these fields stands.
  abbrev place : ℕ
  place = (table size fields end).place

  -- Where a field stands by its index, if it is there.
  abbrev entry : ℕ → Option ℕ
  entry index = entry_place place (get_or (map place_of fields) index 0)

  -- a field of a table is found where its vtable says
  pub field-found : (index : ℕ) → field_at bytes place index ≡ Ok (entry index)
  field-found index = field-read bytes (aligned end) place size fields laid.vtable index

  -- a number that stands in its field is read
  pub scalar-found : (index at : ℕ) (width : Width) (value : ℕ) → entry index ≡ Some (place + at)
      → value < 256 ^ byte_len width
      → Has bytes (place + at) (to_le_bytes width value)
      → scalar bytes place index (byte_len width) ≡ Ok value
  scalar-found index at width value there small has =
      let reads : Result (Option ℕ) FlatFault → Result ℕ FlatFault =
      λ found. found >>= λ here. number_or bytes (byte_len width) 0 here in
      ap reads (field-found index ∙ ap (λ (o : Option ℕ). Ok o) there)
      ∙ number-read bytes (place + at) width value small has

  -- what a reference leads to is found
  pub reference-found : (index at target : ℕ) → entry index ≡ Some (place + at)
      → place + at ≤ target → target < 2 ^ 32
      → Has bytes (place + at) (to_le_bytes w32 (target - (place + at)))
      → reference_at bytes place index ≡ Ok (Some target)
  reference-found index at target there ahead small has =
      let reads : Result (Option ℕ) FlatFault → Result (Option ℕ) FlatFault =
      λ found. found >>= λ here. target_of bytes here in
      let wraps : Result ℕ FlatFault → Result (Option ℕ) FlatFault =
      λ found. found >>= λ leads. Ok (Some leads) in
      ap reads (field-found index ∙ ap (λ (o : Option ℕ). Ok o) there)
      ∙ ap wraps (target-read bytes (place + at) target ahead small has)

  -- a field that the vtable does not have is absent
  pub absent-found : (index : ℕ) → entry index ≡ None → field_at bytes place index ≡ Ok None
  absent-found index there = field-found index ∙ ap (λ (o : Option ℕ). Ok o) there

-- the elements of a vector that a reference leads to
pub elements-found : (bytes : List ℕ) (table index width target first count : ℕ)
    → reference_at bytes table index ≡ Ok (Some target)
    → vector_at bytes target width ≡ Ok (first, count)
    → elements bytes table index width ≡ Ok (record { first = first; count = count })
elements-found bytes table index width target first count leads found =
    let reads : Result (Option ℕ) FlatFault → Result Elements FlatFault =
    λ there. there >>= λ here. elements_of bytes width here in
    let wraps : Result (ℕ × ℕ) FlatFault → Result Elements FlatFault =
    λ there. there >>= λ vector. Ok (record { first = vector.0; count = vector.1 }) in
    ap reads leads ∙ ap wraps found

-- the text of a string that a reference leads to
pub text-found : (bytes : List ℕ) (table index target : ℕ) (string : List ℕ)
    → reference_at bytes table index ≡ Ok (Some target)
    → text_at bytes target ≡ Ok string → text bytes table index ≡ Ok string
text-found bytes table index target string leads found =
    let reads : Result (Option ℕ) FlatFault → Result (List ℕ) FlatFault =
    λ there. there >>= λ here. text_or_empty bytes here in
    ap reads leads ∙ found

-- ---- the message

-- the fields of a message: version, kind and table of its head, and the length of its body
abbrev pub message_fields : Header → ℕ → List Field
message_fields header body_length =
    number 16 w16 4 ∷ number 18 w8 (header_number header) ∷ reference 4
    (header_table header) ∷ number 8 w64 body_length ∷ []

-- The number of a header fits one byte.
header_small : (header : Header) → header_number header < 256 ^ byte_len w8
header_small (schema fields) = lit< tt
header_small (record_batch rows nodes buffers) = lit< tt
header_small (dictionary_batch id rows nodes buffers) = lit< tt

-- where a header's table stands: behind the message's, which stands at 24 with 20 bytes
abbrev pub header_laid : Header → Laid
header_laid header = header_table header 44

pub record HasMessage (bytes : List ℕ) (header : Header) (body_length : ℕ) : Type 0 where
  pub root : Has bytes 0 (to_le_bytes w32 24)
  pub message : Has bytes 8 (message_table header body_length 8).bytes

-- a message's flatbuffer has its root and its table
pub message-there : (bytes : List ℕ) (header : Header) (body_length : ℕ)
    → Has bytes 0 (flatbuffer_of header body_length) → HasMessage bytes header body_length
message-there bytes header body_length has =
    let root : List ℕ = to_le_bytes w32 24 in
    let zeros : List ℕ = replicate 4 0 in
    let laid : List ℕ = (message_table header body_length 8).bytes in
    record {
      root = has-left bytes 0 root zeros (has-left bytes 0 (root ++ zeros) laid has);
      message = has-right bytes 0 (root ++ zeros) laid has;
    }

-- the fields stand where the message's table was laid
pub message-fields-there : (bytes : List ℕ) (header : Header) (body_length : ℕ)
    → HasMessage bytes header body_length
    → IsTableAt bytes 8 20 (message_fields header body_length)
message-fields-there bytes header body_length has =
    table-there bytes 8 20 (message_fields header body_length) (record { apart = refl; fit = refl })
    has.message

-- the header's table is laid
pub header-there : (bytes : List ℕ) (header : Header) (body_length : ℕ)
    → HasMessage bytes header body_length → Has bytes 44 (header_laid header).bytes
header-there bytes header body_length has =
    (message-fields-there bytes header body_length has).laid.1.1.1

-- A message's table reads as its version, its head's number and place, and its body's length.
message-read : (bytes : List ℕ) (header : Header) (body_length : ℕ)
    → HasMessage bytes header body_length
    → 28 ≤ (header_laid header).place → (header_laid header).place < 2 ^ 32 → body_length < 2 ^ 64
    → message_table_at bytes ≡ Ok (record {
      version = 4;
      header_type = header_number header;
      header = Some (header_laid header).place;
      body = body_length;
    })
message-read bytes header body_length has ahead near small =
    let fields : List Field = message_fields header body_length in
    let there = message-fields-there bytes header body_length has in
    let root : target_at bytes 0 ≡ Ok 24 =
    target-read bytes 0 24 (omega arith) (lit< tt) has.root in
    let version : scalar bytes 24 0 2 ≡ Ok 4 =
    scalar-found bytes 8 20 fields there 0 16 w16 4 refl (lit< tt) there.laid.0 in
    let header_type : scalar bytes 24 1 1 ≡ Ok (header_number header) =
    scalar-found bytes 8 20 fields there 1 18 w8 (header_number header) refl (header_small header)
    there.laid.1.0 in
    let leads : reference_at bytes 24 2 ≡ Ok (Some (header_laid header).place) =
    reference-found bytes 8 20 fields there 2 4 (header_laid header).place refl ahead near
    there.laid.1.1.0 in
    let body : scalar bytes 24 3 8 ≡ Ok body_length =
    scalar-found bytes 8 20 fields there 3 8 w64 body_length refl small there.laid.1.1.2.0 in
    rw (root, version, header_type, leads, body) refl

-- The head of a message is of its header's kind, and tells where its table stands and how long the
-- body is.
pub head-read : (bytes : List ℕ) (header : Header) (kind : HeadKind) (body_length : ℕ)
    → kind_of_header (header_number header) ≡ Some kind
    → HasMessage bytes header body_length
    → 28 ≤ (header_laid header).place → (header_laid header).place < 2 ^ 32 → body_length < 2 ^ 63
    → head_of bytes ≡ Ok (record {
      kind = kind;
      header = (header_laid header).place;
      body = body_length;
    })
head-read bytes header kind body_length is has ahead near small =
    let message = message-read bytes header body_length has ahead near (omega arith) in
    let positive : nat_lt body_length (2 ^ 63) ≡ true = lt-ltb body_length (2 ^ 63) small in
    rw (message, is, positive) refl
