-- A message is read as its metadata and what follows it; the end word and the end of the input end
-- the stream.
use Rattle.std.proofs.Common.{◌≡◌, ℕ, zero, suc, ◌+◌, ◌-◌, ◌^◌, ◌<◌, ◌≤◌, Bool, true, false, List, [], ◌++◌, length, take, drop, replicate, refl, ap, ◌∙◌, arith, append_assoc, length-append, Ok}
use Rattle.std.specs.Prelude.{nat_lt, nat_le, Some}
use Rattle.std.specs.Int.{next_multiple_of}
use Rattle.std.proofs.lemmas.List.{length-replicate, take_at, drop_at}
use Rattle.std.proofs.lemmas.Bool.{le-leb, lt-ltb}
use Rattle.byteorder.specs.Numbers.{little_number-reads_back}
use Rattle.arrow_spec.specs.Bytes.{padded}
use Rattle.arrow_spec.specs.Metadata.{Header, flatbuffer_of, header_number}
use Rattle.arrow_spec.specs.Streams.{end_word, message}
use Rattle.flat_read.specs.Reading.{number_from}
use Rattle.stream_spec.specs.declared.message.HeadKind.{HeadKind}
use Rattle.stream_spec.specs.Streams.{ended, framed, sized, frame_of, is_due, due_head}
use Rattle.stream_laws.proofs.Pieces.{has-between}
use Rattle.stream_spec.specs.Metadata.{kind_of_header}
use Rattle.stream_laws.proofs.Messages.{HasMessage, header_laid, message-there, head-read}

-- what stands behind a size word, of as many bytes as it tells
sized-read : (first : Bool) (size : ℕ) (metadata back : List ℕ) → length metadata ≡ size → 0 < size
    → size < 2 ^ 31
    → sized first size (metadata ++ back) ≡ Ok (framed metadata back)
sized-read first zero metadata back is some small = absurd (omega arith)
sized-read first (suc less) metadata back is some small =
    let positive : nat_lt (suc less) (2 ^ 31) ≡ true = lt-ltb (suc less) (2 ^ 31) small in
    let whole : nat_le (suc less) (length (metadata ++ back)) ≡ true =
    le-leb (suc less) (length (metadata ++ back)) (omega (arith, length-append metadata back)) in
    let front : take (suc less) (metadata ++ back) ≡ metadata =
    take_at metadata back (suc less) is in
    let behind : drop (suc less) (metadata ++ back) ≡ back = drop_at metadata back (suc less) is in
    rw (positive, whole, front, behind) refl

-- A message is framed: its metadata with the padding, and its body with what follows.
pub message-framed : (first : Bool) (metadata body rest : List ℕ) → 0 < length (padded metadata)
    → length (padded metadata) < 2 ^ 31
    → frame_of first (message metadata body ++ rest) ≡ Ok (framed (padded metadata) (body ++ rest))
message-framed first metadata body rest some small =
    let bytes : List ℕ = message metadata body ++ rest in
    let tail : List ℕ = padded metadata ++ body ++ rest in
    let long : length bytes ≡ 8 + length tail = omega arith in
    let four : nat_le 4 (length bytes) ≡ true = le-leb 4 (length bytes) (omega arith) in
    let eight : nat_le 8 (length bytes) ≡ true = le-leb 8 (length bytes) (omega arith) in
    let size : number_from bytes 4 4 ≡ length (padded metadata) =
    little_number-reads_back 4 (length (padded metadata)) tail (omega arith) in
    let parts : tail ≡ padded metadata ++ (body ++ rest) =
    append_assoc (padded metadata) body rest in
    rw (four, eight, size)
    (ap (sized first (length (padded metadata))) parts
    ∙ sized-read first (length (padded metadata)) (padded metadata) (body ++ rest) refl some small)

-- the end word, whatever follows it
pub end-framed : (after : List ℕ) → frame_of false (end_word ++ after) ≡ Ok ended
end-framed after =
    let four : nat_le 4 (length (end_word ++ after)) ≡ true =
    le-leb 4 (length (end_word ++ after)) (omega arith) in
    let eight : nat_le 8 (length (end_word ++ after)) ≡ true =
    le-leb 8 (length (end_word ++ after)) (omega arith) in
    rw (four, eight) refl

-- how long a message is
pub length-message : (metadata body : List ℕ)
    → length (message metadata body) ≡ 8 + length (padded metadata) + length body
length-message metadata body =
    let tail : List ℕ = padded metadata ++ body in
    let long : length (message metadata body) ≡ 8 + length tail = omega arith in
    omega (arith, length-append (padded metadata) body)

-- padding is seven bytes at most
pub length-padded : (bytes : List ℕ) → length (padded bytes) ≡ next_multiple_of (length bytes) 8
length-padded bytes =
    let zeros : List ℕ = replicate (next_multiple_of (length bytes) 8 - length bytes) 0 in
    let fill : length zeros ≡ next_multiple_of (length bytes) 8 - length bytes =
    length-replicate (next_multiple_of (length bytes) 8 - length bytes) 0 in
    omega (arith, length-append bytes zeros)

-- padded metadata is that of a message
pub padded-message : (header : Header) (body_length : ℕ)
    → HasMessage (padded (flatbuffer_of header body_length)) header body_length
padded-message header body_length =
    let bytes : List ℕ = flatbuffer_of header body_length in
    message-there (padded bytes) header body_length
    (has-between [] bytes (replicate (next_multiple_of (length bytes) 8 - length bytes) 0))

-- The head of a message that may stand here is found, where the body is whole.
pub head-found : (metadata rest : List ℕ) (header : Header) (kind : HeadKind) (first : Bool)
    (body_length : ℕ)
    → kind_of_header (header_number header) ≡ Some kind → is_due first kind ≡ true
    → HasMessage metadata header body_length
    → 28 ≤ (header_laid header).place → (header_laid header).place < 2 ^ 32 → body_length < 2 ^ 63
    → body_length ≤ length rest
    → due_head first metadata rest
    ≡ Ok (record { kind = kind; header = (header_laid header).place; body = body_length })
head-found metadata rest header kind first body_length is due has ahead near small whole =
    let head = head-read metadata header kind body_length is has ahead near small in
    let enough : nat_le body_length (length rest) ≡ true = le-leb body_length (length rest) whole in
    rw (head, due, enough) refl
