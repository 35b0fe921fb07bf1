-- How many bytes the metadata of a record batch has.
use Rattle.std.proofs.Common.{◌≡◌, ℕ, ◌+◌, ◌-◌, ◌*◌, ℤ, List, [], ◌∷◌, ◌++◌, length, replicate, take, ap, ◌∙◌, refl, arith, length-append}
use Rattle.std.specs.Prelude.{flat_map}
use Rattle.std.proofs.lemmas.List.{length-replicate}
use Rattle.std.specs.Int.{w32, w64, to_le_bytes}
use Rattle.arrow_spec.specs.Bytes.{number_bytes}
use Rattle.arrow_spec.specs.Flatbuffers.{gap, length_place}
use Rattle.arrow_spec.specs.Metadata.{record_batch, flatbuffer_of}

-- a struct of two 64-bit numbers
abbrev pair_bytes : (ℤ × ℤ) → List ℕ
pair_bytes pair = number_bytes w64 pair.0 ++ number_bytes w64 pair.1

-- The bytes of pairs are sixteen for each pair.
length-pairs : (pairs : List (ℤ × ℤ)) → length (flat_map pair_bytes pairs) ≡ 16 * length pairs
length-pairs [] = refl
length-pairs (pair ∷ pairs) = omega (arith, length-pairs pairs)

-- the nodes, and the vector of buffers after them
length-second : (nodes buffers : List ℕ) (end count n m : ℕ) → end ≡ 88 + 16 * n → length nodes ≡ 16 * n → length buffers ≡ 16 * m
    → length (nodes ++ (gap end (length_place end) ++ to_le_bytes w32 count ++ buffers)) ≡ 8 + 16 * n + 16 * m
length-second nodes buffers end count n m at few more =
    rw (
      length-append nodes (gap end (length_place end) ++ to_le_bytes w32 count ++ buffers),
      length-append (gap end (length_place end) ++ to_le_bytes w32 count) buffers,
      length-append (gap end (length_place end)) (to_le_bytes w32 count),
      length-replicate {A = ℕ} (length_place end - end) 0,
    )
    (omega arith)

-- how many bytes the metadata of a batch has, by its nodes and buffers
pub length-batch : (rows : ℕ) (nodes buffers : List (ℤ × ℤ)) (body : ℕ)
    → length (flatbuffer_of (record_batch rows nodes buffers) body) ≡ 96 + 16 * length nodes + 16 * length buffers
length-batch rows nodes buffers body =
    let whole = flatbuffer_of (record_batch rows nodes buffers) body in
    let end = 64 + length (replicate 24 0 ++ flat_map pair_bytes nodes) in
    let rest = flat_map pair_bytes nodes ++ (gap end (length_place end) ++ to_le_bytes w32 (length buffers) ++ flat_map pair_bytes buffers) in
    let here : end ≡ 88 + 16 * length nodes = omega (arith, length-pairs nodes) in
    let front : length whole ≡ 88 + length rest = length-append (take 88 whole) rest in
    let back : length rest ≡ 8 + 16 * length nodes + 16 * length buffers =
    length-second (flat_map pair_bytes nodes) (flat_map pair_bytes buffers) end (length buffers) (length nodes) (length buffers)
    here (length-pairs nodes) (length-pairs buffers) in
    front ∙ ap (λ n. 88 + n) back ∙ omega arith
