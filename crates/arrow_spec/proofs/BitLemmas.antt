-- Which bit of which byte of a bitmap a bit is.
use Rattle.std.proofs.Common.{◌≡◌, ℕ, zero, suc, ◌+◌, ◌*◌, ◌/◌, ◌%◌, ◌<◌, ◌≤◌, inl, inr, Bool, true, false, List, [], ◌∷◌, length, take, drop, map, refl, ap, arith, ◌∙◌, sym}
use Rattle.std.specs.Prelude.{slice_index, slice_index_or, if◌then◌else◌}
use Rattle.std.specs.Int.{bit_at}
use Rattle.std.specs.Simd.{first_chunks}
use Rattle.std.proofs.lemmas.Bool.{cases_lt}
use Rattle.std.proofs.lemmas.Nat.Bits.{bit_at-zero, bit_at_lowest, bit_at-suc}
use Rattle.std.proofs.lemmas.List.{get_or-drop, get_or-take, get_or_past}
use Rattle.arrow_spec.specs.Bytes.{byte_of_bits, bitmap}

-- a bit as a number
abbrev digit : Bool → ℕ
digit bit = if bit then 1 else 0

-- The digit of a bit is zero or one.
below_two : (bit : Bool) → digit bit ≤ 1
below_two true = omega arith
below_two false = omega arith

-- bit k of the byte of some bits is their k-th
bit_at-byte_of_bits : (bits : List Bool) (k : ℕ) → bit_at (byte_of_bits bits) k ≡ digit (slice_index_or bits k false)
bit_at-byte_of_bits [] k = bit_at-zero k
bit_at-byte_of_bits (bit ∷ bits) zero = bit_at_lowest (digit bit + 2 * byte_of_bits bits) ∙ omega (arith, below_two bit)
bit_at-byte_of_bits (bit ∷ bits) (suc k) =
    let half : (digit bit + 2 * byte_of_bits bits) / 2 ≡ byte_of_bits bits = omega (arith, below_two bit) in
    bit_at-suc (digit bit + 2 * byte_of_bits bits) k ∙ ap (λ n. bit_at n k) half ∙ bit_at-byte_of_bits bits k

-- So many chunks of eight bits make as many bytes.
length-chunks : (count : ℕ) (bits : List Bool) → length (map byte_of_bits (first_chunks 8 count bits)) ≡ count
length-chunks zero bits = refl
length-chunks (suc count) bits = ap suc (length-chunks count (drop 8 bits))

-- bit j of byte k is bit 8 k + j
bit_at-chunks : (count : ℕ) (bits : List Bool) (k j : ℕ) → k < count → j < 8
    → bit_at (slice_index (map byte_of_bits (first_chunks 8 count bits)) k) j ≡ digit (slice_index_or bits (8 * k + j) false)
bit_at-chunks zero bits k j h l = absurd (omega arith)
bit_at-chunks (suc count) bits zero j h l =
    bit_at-byte_of_bits (take 8 bits) j ∙ ap digit (get_or-take 8 bits j false l) ∙ ap (λ n. digit (slice_index_or bits n false)) (omega arith)
bit_at-chunks (suc count) bits (suc k) j h l =
    let place : 8 + (8 * k + j) ≡ 8 * suc k + j = omega arith in
    bit_at-chunks count (drop 8 bits) k j (omega arith) l
    ∙ ap digit (get_or-drop 8 bits (8 * k + j) false)
    ∙ ap (λ n. digit (slice_index_or bits n false)) place

-- past the bitmap all is 0
bit_at_past : (bits : List Bool) (k j : ℕ) → (length bits + 7) / 8 ≤ k → bit_at (slice_index (bitmap bits) k) j ≡ digit (slice_index_or bits (8 * k + j) false)
bit_at_past bits k j h =
    let bytes_end : length (bitmap bits) ≤ k = rw (length-chunks ((length bits + 7) / 8) bits) h in
    let bits_end : length bits ≤ 8 * k + j = omega arith in
    ap (λ n. bit_at n j) (get_or_past (bitmap bits) k 0 bytes_end) ∙ bit_at-zero j ∙ sym (ap digit (get_or_past bits (8 * k + j) false bits_end))

-- a bit is found in its byte of the bitmap; behind the last there are zeros
pub bit_at-bitmap : (bits : List Bool) (i : ℕ) → bit_at (slice_index (bitmap bits) (i / 8)) (i % 8) ≡ (if slice_index_or bits i false then 1 else 0)
bit_at-bitmap bits i =
    let parts : 8 * (i / 8) + i % 8 ≡ i = omega arith in
    let rest : i % 8 < 8 = omega arith in
    elim (cases_lt (i / 8) ((length bits + 7) / 8)) [
      | inl h ↦ bit_at-chunks ((length bits + 7) / 8) bits (i / 8) (i % 8) h rest ∙ ap (λ n. digit (slice_index_or bits n false)) parts
      | inr h ↦ bit_at_past bits (i / 8) (i % 8) h ∙ ap (λ n. digit (slice_index_or bits n false)) parts
    ]
