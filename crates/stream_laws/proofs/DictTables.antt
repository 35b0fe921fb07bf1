-- A dictionary batch's table reads as its id and the place of its values.
use Rattle.std.proofs.Common.{◌≡◌, ℕ, ℤ, ◌+◌, ◌*◌, ◌^◌, ◌<◌, ◌≤◌, false, List, [], ◌∷◌, length, refl, arith, lit<, Some, Ok}
use Rattle.std.specs.Prelude.{flat_map}
use Rattle.std.specs.Int.{w8, w64}
use Rattle.arrow_spec.specs.Flatbuffers.{Field, number, reference, vector_of_pairs}
use Rattle.arrow_spec.specs.Metadata.{dictionary_batch, dictionary_batch_table, flatbuffer_of, record_batch_table}
use Rattle.stream_spec.specs.Metadata.{dictionary_at, reference as reference_at, scalar}
use Rattle.stream_laws.proofs.Pieces.{Has}
use Rattle.stream_laws.proofs.Tables.{IsTableAt, table-there}
use Rattle.stream_laws.proofs.BatchTables.{batch_fields, batch-there, length-pairs, pair_bytes}
use Rattle.stream_laws.proofs.Messages.{message_fields, reference-found, scalar-found, table-behind}
use Rattle.stream_laws.proofs.Sizes.{AddsAtMost, table-short, vector-short}

-- the fields of a dictionary batch: its id, its values, and that they stand in place of others
abbrev pub dictionary_fields : ℕ → ℕ → List (ℤ × ℤ) → List (ℤ × ℤ) → List Field
dictionary_fields id rows nodes buffers =
    number 8 w64 id
    ∷ reference 4 (record_batch_table rows nodes buffers)
    ∷ number 16 w8 0
    ∷ []

-- the fields stand where the dictionary's table was laid
pub dictionary-there : (bytes : List ℕ) (end id rows : ℕ) (nodes buffers : List (ℤ × ℤ))
    → Has bytes end (dictionary_batch_table id rows nodes buffers end).bytes
    → IsTableAt bytes end 17 (dictionary_fields id rows nodes buffers)
dictionary-there bytes end id rows nodes buffers has =
    table-there bytes end 17 (dictionary_fields id rows nodes buffers)
    (record { apart = refl; fit = refl }) has

-- behind which its values are laid
abbrev pub values_end : ℕ → ℕ → List (ℤ × ℤ) → List (ℤ × ℤ) → ℕ → ℕ
values_end id rows nodes buffers end = (dictionary_batch_table id rows nodes buffers end).place + 17

-- the values' table is laid
pub values-there : (bytes : List ℕ) (end id rows : ℕ) (nodes buffers : List (ℤ × ℤ))
    → Has bytes end (dictionary_batch_table id rows nodes buffers end).bytes
    → Has bytes (values_end id rows nodes buffers end)
    (record_batch_table rows nodes buffers (values_end id rows nodes buffers end)).bytes
values-there bytes end id rows nodes buffers has =
    (dictionary-there bytes end id rows nodes buffers has).laid.1.1

-- The dictionary's id is read back, and where its values stand.
pub dictionary-read : (bytes : List ℕ) (end id rows : ℕ) (nodes buffers : List (ℤ × ℤ))
    → length bytes < 2 ^ 31 → id < 2 ^ 63
    → Has bytes end (dictionary_batch_table id rows nodes buffers end).bytes
    → dictionary_at bytes (dictionary_batch_table id rows nodes buffers end).place
    ≡ Ok (record {
      id = id;
      values = (record_batch_table rows nodes buffers (values_end id rows nodes buffers end)).place;
      delta = false;
    })
dictionary-read bytes end id rows nodes buffers small fits has =
    let fields : List Field = dictionary_fields id rows nodes buffers in
    let place : ℕ = (dictionary_batch_table id rows nodes buffers end).place in
    let there = dictionary-there bytes end id rows nodes buffers has in
    let inner : ℕ = place + 17 in
    let target : ℕ = (record_batch_table rows nodes buffers inner).place in
    let values = batch-there bytes inner rows nodes buffers there.laid.1.1 in
    let behind : inner ≤ target = table-behind inner 20 (batch_fields rows nodes buffers) in
    let named : scalar bytes place 0 8 ≡ Ok id =
    scalar-found bytes end 17 fields there 0 8 w64 id refl (omega arith) there.laid.0 in
    let leads : reference_at bytes place 1 ≡ Ok (Some target) =
    reference-found bytes end 17 fields there 1 4 target refl (omega (arith, behind))
    (omega (arith, values.inside)) there.laid.1.0 in
    let whole : scalar bytes place 2 1 ≡ Ok 0 =
    scalar-found bytes end 17 fields there 2 16 w8 0 refl (lit< tt) there.laid.1.2.0 in
    rw (named, leads, whole) refl

-- pairs add at most eleven bytes to their own
pairs-short : (pairs : List (ℤ × ℤ)) → AddsAtMost (vector_of_pairs pairs) (11 + 16 * length pairs)
pairs-short pairs end =
    omega (arith, vector-short (length pairs) (flat_map pair_bytes pairs) end, length-pairs pairs)

-- how many bytes the metadata of a dictionary has at most, by its nodes and buffers
pub dictionary-short : (id rows : ℕ) (nodes buffers : List (ℤ × ℤ)) (body : ℕ)
    → length (flatbuffer_of (dictionary_batch id rows nodes buffers) body)
    ≤ 256 + 16 * length nodes + 16 * length buffers
dictionary-short id rows nodes buffers body =
    let first : ℕ = 11 + 16 * length nodes in
    let second : ℕ = 11 + 16 * length buffers in
    let batch : ℕ = 18 + 2 * 3 + 20 + (first + second) in
    let batch_adds : AddsAtMost (record_batch_table rows nodes buffers) batch =
    table-short 20 (first + second) (batch_fields rows nodes buffers)
    (record { apart = refl; fit = refl })
    (first, (pairs-short nodes, omega arith, (second, (pairs-short buffers, omega arith, tt)))) in
    let dictionary : ℕ = 18 + 2 * 3 + 17 + batch in
    let dictionary_adds : AddsAtMost (dictionary_batch_table id rows nodes buffers) dictionary =
    table-short 17 batch (dictionary_fields id rows nodes buffers)
    (record { apart = refl; fit = refl }) (batch, (batch_adds, omega arith, tt)) in
    let message =
    table-short 20 dictionary (message_fields (dictionary_batch id rows nodes buffers) body)
    (record { apart = refl; fit = refl }) (dictionary, (dictionary_adds, omega arith, tt)) 8 in
    omega arith
