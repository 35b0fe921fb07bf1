-- The validity and the truth values of a column, read back from their bitmaps.
use Rattle.std.proofs.Common.{◌≡◌, ℕ, zero, suc, ◌+◌, ◌<◌, Bool, true, false, List, [], ◌∷◌, length, map, drop, get_or, refl, sym, ap, ◌∙◌, arith, inl, inr, ◌⊎◌}
use Rattle.std.specs.Prelude.{not, ◌==◌, ◌||◌, count_by, if◌then◌else◌}
use Rattle.std.proofs.lemmas.List.{get_or-map, length-map}
use Rattle.std.proofs.lemmas.List.Sums.{sum_by-cons}
use Rattle.std.proofs.lemmas.Bool.{cases_Bool, eqb-true, ne_eqb}
use Rattle.std.specs.List.{range_with_len}
use Rattle.std.specs.Simd.{first_chunks}
use Rattle.cell_model.specs.Values.{is_null}
use Rattle.cell_model.specs.declared.cell.Cell.{Cell}
use Rattle.cell_model.specs.declared.cell.Cell.TheVariants.{Null}
use Rattle.arrow_spec.proofs.BitLemmas.{bit_at-bitmap}
use Rattle.arrow_spec.specs.Arrays.{null_count, validity, truth_of}
use Rattle.arrow_spec.specs.Bytes.{bitmap, byte_of_bits}
use Rattle.stream_spec.specs.Columns.{bit_of, bitmap_length, is_valid, null_count_of}

-- So many chunks of bits make as many bytes.
length-chunks : (count : ℕ) (bits : List Bool)
    → length (map byte_of_bits (first_chunks 8 count bits)) ≡ count
length-chunks zero bits = refl
length-chunks (suc count) bits = ap suc (length-chunks count (drop 8 bits))

-- how many bytes a bitmap has
pub length-bitmap : (bits : List Bool) → length (bitmap bits) ≡ bitmap_length (length bits)
length-bitmap bits = length-chunks (bitmap_length (length bits)) bits

-- A bit's number is tested to be one just where the bit is set.
is_one : (bit : Bool) → ((if bit then 1 else 0) == 1) ≡ bit
is_one true = refl
is_one false = refl

-- a bit is the one that it was made of
pub bit-back : (bits : List Bool) (i : ℕ) → bit_of (bitmap bits) i ≡ get_or bits i false
bit-back bits i = ap (λ (n : ℕ). n == 1) (bit_at-bitmap bits i) ∙ is_one (get_or bits i false)

-- the truth value in a slot
pub truth-back : (cells : List Cell) (i : ℕ) → i < length cells
    → bit_of (bitmap (map truth_of cells)) i ≡ truth_of (get_or cells i Null)
truth-back cells i inside =
    bit-back (map truth_of cells) i ∙ get_or-map truth_of cells i Null false inside

-- ---- nulls

-- a bit as a number
abbrev digit : Bool → ℕ
digit bit = if bit then 1 else 0

-- A bit whose number is zero is not set.
as_number : (bit : Bool) → digit bit ≡ 0 → bit ≡ false
as_number true is = absurd (omega (arith, is))
as_number false is = refl

-- where there is no null, no slot is one
none-null : (cells : List Cell) (i : ℕ) → null_count cells ≡ 0 → i < length cells
    → is_null (get_or cells i Null) ≡ false
none-null [] i none inside = absurd (omega arith)
none-null (cell ∷ cells) zero none inside =
    let parts = sum_by-cons (λ (c : Cell). if is_null c then 1 else 0) cell cells in
    as_number (is_null cell) (omega (arith, parts, none))
none-null (cell ∷ cells) (suc i) none inside =
    let parts = sum_by-cons (λ (c : Cell). if is_null c then 1 else 0) cell cells in
    none-null cells i (omega (arith, parts, none)) (omega arith)

-- a bitmap of some bits is not empty
some-bytes : (cells : List Cell) (i : ℕ) → i < length cells
    → (length (bitmap (map (λ cell. not (is_null cell)) cells)) == 0) ≡ false
some-bytes cells i inside =
    let bits : List Bool = map (λ cell. not (is_null cell)) cells in
    let long : length bits ≡ length cells = length-map cells (λ cell. not (is_null cell)) in
    ne_eqb (length (bitmap bits)) 0 (λ none. omega (arith, length-bitmap bits, none))

-- a slot is valid where it is not null
pub valid-back : (cells : List Cell) (i : ℕ) → i < length cells
    → is_valid (validity cells) i ≡ not (is_null (get_or cells i Null))
valid-back cells i inside =
    let bits : List Bool = map (λ cell. not (is_null cell)) cells in
    let choice : Bool → Bool = λ none. is_valid (if none then [] else bitmap bits) i in
    elim (cases_Bool (null_count cells == 0)) [
      | inl none ↦
          let all : is_null (get_or cells i Null) ≡ false =
          none-null cells i (eqb-true (null_count cells) 0 none) inside in
          ap choice none ∙ sym (ap not all)
      | inr some ↦
          ap choice some
          ∙ ap (λ (empty : Bool). empty || bit_of (bitmap bits) i) (some-bytes cells i inside)
          ∙ bit-back bits i
          ∙ get_or-map (λ cell. not (is_null cell)) cells i Null false inside
    ]

-- the slots that a test holds of, by their places
count-places : (test : ℕ → Bool) (k : ℕ) (cells : List Cell)
    → ((i : ℕ) → i < length cells → test (k + i) ≡ is_null (get_or cells i Null))
    → count_by test (range_with_len k (length cells)) ≡ count_by is_null cells
count-places test k [] same = refl
count-places test k (cell ∷ cells) same =
    let here : test k ≡ is_null cell = ap test (omega arith) ∙ same 0 (omega arith) in
    let rest : count_by test (range_with_len (k + 1) (length cells)) ≡ count_by is_null cells =
    count-places test (k + 1) cells (λ i inside. ap test (omega arith)
    ∙ same (suc i) (omega arith)) in
    sum_by-cons (λ (i : ℕ). if test i then 1 else 0) k (range_with_len (k + 1) (length cells))
    ∙ ap (λ (b : Bool). (if b then 1 else 0) + count_by test
    (range_with_len (k + 1) (length cells))) here
    ∙ ap (λ (n : ℕ). (if is_null cell then 1 else 0) + n) rest
    ∙ sym (sum_by-cons (λ (c : Cell). if is_null c then 1 else 0) cell cells)

-- Negating a bit twice gives the bit.
not_not : (bit : Bool) → not (not bit) ≡ bit
not_not true = refl
not_not false = refl

-- the null count is the number of nulls
pub nulls-back : (cells : List Cell)
    → null_count_of (validity cells) (length cells) ≡ null_count cells
nulls-back cells =
    count-places (λ i. not (is_valid (validity cells) i)) 0 cells
    (λ i inside.
    ap (λ (n : ℕ). not (is_valid (validity cells) n)) (omega arith)
    ∙ ap not (valid-back cells i inside) ∙ not_not (is_null (get_or cells i Null)))

-- a validity is absent or has all its bits
pub validity-long : (cells : List Cell)
    → (length (validity cells) ≡ 0) ⊎ (length (validity cells) ≡ bitmap_length (length cells))
validity-long cells =
    let bits : List Bool = map (λ cell. not (is_null cell)) cells in
    let choice : Bool → List ℕ = λ none. if none then [] else bitmap bits in
    elim (cases_Bool (null_count cells == 0)) [
      | inl none ↦ inl (ap (λ (b : Bool). length (choice b)) none)
      | inr some ↦
          inr (ap (λ (b : Bool). length (choice b)) some ∙ length-bitmap bits
          ∙ ap bitmap_length (length-map cells (λ cell. not (is_null cell))))
    ]
