-- Buffers that are added to a body, one or a column's at a time.
use Rattle.std.proofs.Common.{◌≡◌, ℕ, ◌+◌, ℤ, pos, List, [], ◌∷◌, ◌++◌, length, refl, sym, ap, ◌∙◌, arith, append_assoc, length-append, Option}
use Rattle.std.specs.Prelude.{flat_map}
use Rattle.std.proofs.lemmas.Grind.{flat_map-append}
use Rattle.arrow_spec.specs.Batches.{buffer_places}
use Rattle.std.specs.Int.{w32, to_le_bytes}
use Rattle.arrow_spec.specs.Bytes.{padded}
use Rattle.arrow_spec.specs.Metadata.{flatbuffer_of}
use Rattle.arrow_spec.specs.Streams.{batch_header, continuation, message}

-- the places of two lists of buffers, the second behind the first
pub places-append :
    (from : ℕ) (first rest : List (List ℕ))
    → buffer_places from (first ++ rest) ≡ buffer_places from first ++ buffer_places (from + length (flat_map padded first)) rest
places-append from [] rest =
    let same : from ≡ from + 0 = omega arith in
    ap (λ (n : ℕ). buffer_places n rest) same
places-append from (buffer ∷ first) rest =
    let size : ℕ = length (padded buffer) in
    let joined : length (padded buffer ++ flat_map padded first) ≡ size + length (flat_map padded first) = length-append (padded buffer) (flat_map padded first) in
    let ends : (from + size) + length (flat_map padded first) ≡ from + length (padded buffer ++ flat_map padded first) = omega arith in
    ap (λ (places : List (ℤ × ℤ)). (pos from, pos (length buffer)) ∷ places) (places-append (from + size) first rest)
    ∙ ap (λ (n : ℕ). (pos from, pos (length buffer)) ∷ (buffer_places (from + size) first ++ buffer_places n rest)) ends

-- buffers were added: what is left then makes the same whole
pub places-added :
    (places more : List (ℤ × ℤ)) (size grown : ℕ) (first rest : List (List ℕ))
    → more ≡ places ++ buffer_places size first → grown ≡ size + length (flat_map padded first)
    → more ++ buffer_places grown rest ≡ places ++ buffer_places size (first ++ rest)
places-added places more size grown first rest placed added =
    ap (λ (all : List (ℤ × ℤ)). all ++ buffer_places grown rest) placed
    ∙ append_assoc places (buffer_places size first) (buffer_places grown rest)
    ∙ ap (λ (n : ℕ). places ++ (buffer_places size first ++ buffer_places n rest)) added
    ∙ ap (λ (all : List (ℤ × ℤ)). places ++ all) (sym (places-append size first rest))

-- the first buffers and those behind them take the bytes of all
pub size-added :
    (size grown : ℕ) (first rest : List (List ℕ))
    → grown ≡ size + length (flat_map padded first)
    → grown + length (flat_map padded rest) ≡ size + length (flat_map padded (first ++ rest))
size-added size grown first rest added =
    let joined : length (flat_map padded (first ++ rest)) ≡ length (flat_map padded first) + length (flat_map padded rest) =
    ap length (flat_map-append padded first rest) ∙ length-append (flat_map padded first) (flat_map padded rest) in
    omega arith

-- each buffer has a place
pub length-places : (from : ℕ) (buffers : List (List ℕ)) → length (buffer_places from buffers) ≡ length buffers
length-places from [] = refl
length-places from (buffer ∷ buffers) = omega (arith, length-places (from + length (padded buffer)) buffers)

-- What stands before the body of a message makes the message with it.
pub message-is :
    (id : Option ℕ) (rows size : ℕ) (nodes n places p : List (ℤ × ℤ)) (body metadata m front : List ℕ)
    → n ≡ nodes → p ≡ places → size ≡ length body
    → metadata ≡ flatbuffer_of (batch_header id rows n p) size → m ≡ metadata
    → front ≡ continuation ++ to_le_bytes w32 (length (padded m)) ++ padded m
    → front ++ body ≡ message (flatbuffer_of (batch_header id rows nodes places) (length body)) body
message-is id rows size nodes n places p body metadata m front nodes_are places_are size_is metadata_is m_is front_is =
    let told : m ≡ flatbuffer_of (batch_header id rows nodes places) (length body) =
    m_is ∙ metadata_is
    ∙ ap (λ (x : List (ℤ × ℤ)). flatbuffer_of (batch_header id rows x p) size) nodes_are
    ∙ ap (λ (x : List (ℤ × ℤ)). flatbuffer_of (batch_header id rows nodes x) size) places_are
    ∙ ap (λ (x : ℕ). flatbuffer_of (batch_header id rows nodes places) x) size_is in
    ap (λ (x : List ℕ). x ++ body) front_is
    ∙ ap (λ (x : List ℕ). (continuation ++ to_le_bytes w32 (length (padded x)) ++ padded x) ++ body) told
