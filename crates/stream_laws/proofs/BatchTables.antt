-- A record batch's table reads as the counts and places that it was laid for.
use Rattle.std.proofs.Common.{◌≡◌, ℕ, ℤ, ◌+◌, ◌*◌, ◌^◌, ◌<◌, ◌≤◌, true, false, List, [], ◌∷◌, ◌++◌, length, map, refl, subst, arith, Ok}
use Rattle.std.specs.Prelude.{nat_lt, flat_map}
use Rattle.std.proofs.lemmas.Bool.{lt-ltb}
use Rattle.std.specs.Int.{w64}
use Rattle.std.specs.List.{range_with_len}
use mir.Val.{SFits}
use Rattle.arrow_spec.specs.Bytes.{number_bytes}
use Rattle.arrow_spec.specs.Flatbuffers.{Field, number, reference, length_place, vector_of_pairs}
use Rattle.arrow_spec.specs.Metadata.{record_batch_table}
use Rattle.stream_spec.specs.declared.message.BufferPlace.{BufferPlace}
use Rattle.stream_spec.specs.declared.message.FieldNode.{FieldNode}
use Rattle.stream_spec.specs.Metadata.{signed_from, batch_at}
use Rattle.stream_laws.proofs.Pieces.{Has, has-left, has-right, has-signed}
use Rattle.stream_laws.proofs.Tables.{IsTableAt, IsVectorAt, table-there, vector-there, vector-read}
use Rattle.stream_laws.proofs.Messages.{scalar-found, reference-found, absent-found, elements-found}

-- each number of the pairs fits 64 bits with a sign
abbrev pub AllFit : List (ℤ × ℤ) → Type 0
AllFit [] = Unit {0}
AllFit (pair ∷ pairs) = SFits w64 pair.0 × SFits w64 pair.1 × AllFit pairs

-- a struct of two 64-bit numbers
abbrev pub pair_bytes : (ℤ × ℤ) → List ℕ
pair_bytes pair = number_bytes w64 pair.0 ++ number_bytes w64 pair.1

-- a pair as a node, and as a buffer's place
abbrev pub node_of : (ℤ × ℤ) → FieldNode
node_of pair = record { length = pair.0; null_count = pair.1 }

-- a pair as the place of a buffer
abbrev pub buffer_of : (ℤ × ℤ) → BufferPlace
buffer_of pair = record { offset = pair.0; length = pair.1 }

-- each pair takes 16 bytes
pub length-pairs : (pairs : List (ℤ × ℤ)) → length (flat_map pair_bytes pairs) ≡ 16 * length pairs
length-pairs [] = refl
length-pairs (pair ∷ pairs) = omega (arith, length-pairs pairs)

-- pairs that stand one after another, each read as it is
pub pairs-read : {X : Type 0} (reads : ℤ → ℤ → X) (bytes : List ℕ) (first k : ℕ)
    (pairs : List (ℤ × ℤ)) → AllFit pairs
    → Has bytes (first + 16 * k) (flat_map pair_bytes pairs)
    → map (λ at. reads (signed_from bytes at) (signed_from bytes (at + 8)))
    (map (λ i. first + 16 * i) (range_with_len k (length pairs)))
    ≡ map (λ pair. reads pair.0 pair.1) pairs
pairs-read reads bytes first k [] fit has = refl
pairs-read {X} reads bytes first k (pair ∷ pairs) fit has =
    let at : ℕ = first + 16 * k in
    let one : List ℕ = number_bytes w64 pair.0 in
    let two : List ℕ = number_bytes w64 pair.1 in
    let both : Has bytes at (one ++ two) =
    has-left bytes at (one ++ two) (flat_map pair_bytes pairs) has in
    let low : signed_from bytes at ≡ pair.0 =
    has-signed bytes at w64 pair.0 fit.0 (has-left bytes at one two both) in
    let high : signed_from bytes (at + 8) ≡ pair.1 =
    has-signed bytes (at + 8) w64 pair.1 fit.1 (has-right bytes at one two both) in
    let P : ℕ → Type 0 = λ n. Has bytes n (flat_map pair_bytes pairs) in
    let more : at + 16 ≡ first + 16 * (k + 1) = omega arith in
    let rest =
    pairs-read reads bytes first (k + 1) pairs fit.2
    (subst P more (has-right bytes at (one ++ two) (flat_map pair_bytes pairs) has)) in
    rw (low, high, rest) refl

-- the fields of a record batch: its length, its nodes and its buffers
abbrev pub batch_fields : ℕ → List (ℤ × ℤ) → List (ℤ × ℤ) → List Field
batch_fields rows nodes buffers =
    number 8 w64 rows
    ∷ reference 4 (vector_of_pairs nodes)
    ∷ reference 16 (vector_of_pairs buffers)
    ∷ []

-- the fields stand where the batch's table was laid
pub batch-there : (bytes : List ℕ) (end rows : ℕ) (nodes buffers : List (ℤ × ℤ))
    → Has bytes end (record_batch_table rows nodes buffers end).bytes
    → IsTableAt bytes end 20 (batch_fields rows nodes buffers)
batch-there bytes end rows nodes buffers has =
    table-there bytes end 20 (batch_fields rows nodes buffers) (record { apart = refl; fit = refl })
    has

-- a vector of pairs is found
vector-found : (bytes : List ℕ) (end : ℕ) (pairs : List (ℤ × ℤ))
    → Has bytes end (vector_of_pairs pairs end).bytes
    → IsVectorAt bytes end (length pairs) (flat_map pair_bytes pairs)
vector-found bytes end pairs has =
    vector-there bytes end (length pairs) (flat_map pair_bytes pairs) has

-- The batch is read back.
pub batch-read : (bytes : List ℕ) (end rows : ℕ) (nodes buffers : List (ℤ × ℤ))
    → length bytes < 2 ^ 31 → rows < 2 ^ 63 → AllFit nodes → AllFit buffers
    → Has bytes end (record_batch_table rows nodes buffers end).bytes
    → batch_at bytes (record_batch_table rows nodes buffers end).place
    ≡ Ok (record {
      rows = rows;
      nodes = map node_of nodes;
      buffers = map buffer_of buffers;
      compressed = false;
    })
batch-read bytes end rows nodes buffers small few nodes_fit buffers_fit has =
    let fields : List Field = batch_fields rows nodes buffers in
    let place : ℕ = (record_batch_table rows nodes buffers end).place in
    let there = batch-there bytes end rows nodes buffers has in
    let one_end : ℕ = place + 20 in
    let one : ℕ = length_place one_end in
    let node_vector = vector-found bytes one_end nodes there.laid.1.1 in
    let two_end : ℕ = one_end + length (vector_of_pairs nodes one_end).bytes in
    let two : ℕ = length_place two_end in
    let buffer_vector = vector-found bytes two_end buffers there.laid.1.2.1 in
    let node_room : one + 4 + 16 * length nodes ≤ length bytes =
    omega (arith, node_vector.content.within, length-pairs nodes) in
    let buffer_room : two + 4 + 16 * length buffers ≤ length bytes =
    omega (arith, buffer_vector.content.within, length-pairs buffers) in
    let counted =
    scalar-found bytes end 20 fields there 0 8 w64 rows refl (omega arith) there.laid.0 in
    let node_leads =
    reference-found bytes end 20 fields there 1 4 one refl (omega arith) (omega arith)
    there.laid.1.0 in
    let buffer_leads =
    reference-found bytes end 20 fields there 2 16 two refl (omega arith) (omega arith)
    there.laid.1.2.0 in
    let node_elements = elements-found bytes place 1 16 one (one + 4) (length nodes) node_leads
    (vector-read bytes one (length nodes) 16 (omega arith) (omega arith) node_vector.word) in
    let buffer_elements = elements-found bytes place 2 16 two (two + 4) (length buffers)
    buffer_leads
    (vector-read bytes two (length buffers) 16 (omega arith) (omega arith) buffer_vector.word) in
    let plain = absent-found bytes end 20 fields there 3 refl in
    let P : ℕ → Type 0 = λ n. Has bytes n (flat_map pair_bytes nodes) in
    let Q : ℕ → Type 0 = λ n. Has bytes n (flat_map pair_bytes buffers) in
    let all_nodes =
    pairs-read (λ low high. node_of (low, high)) bytes (one + 4) 0 nodes nodes_fit
    (subst P (omega arith) node_vector.content) in
    let all_buffers =
    pairs-read (λ low high. buffer_of (low, high)) bytes (two + 4) 0 buffers buffers_fit
    (subst Q (omega arith) buffer_vector.content) in
    let positive : nat_lt rows (2 ^ 63) ≡ true = lt-ltb rows (2 ^ 63) few in
    rw (counted, node_elements, buffer_elements, plain, all_nodes, all_buffers, positive) refl
