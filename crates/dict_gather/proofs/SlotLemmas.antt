-- The cells of a column, read from its buffers.
use Rattle.std.proofs.Common.{◌≡◌, ℕ, zero, suc, ◌+◌, ◌-◌, ◌*◌, ◌/◌, ◌%◌, ◌^◌, ◌<◌, ◌≤◌, Bool, true, false, List, [], ◌∷◌, ◌++◌, length, take, drop, map, get_or, refl, sym, ap, ◌∙◌, arith, length-append}
use Rattle.std.specs.Prelude.{not, ◌==◌, flat_map, if◌then◌else◌, slice_index, slice_index_or}
use Rattle.std.specs.Int.{bit_at, w32, to_le_bytes}
use Rattle.std.specs.Simd.{first_chunks}
use Rattle.std.proofs.lemmas.Bool.{ne_eqb}
use Rattle.std.proofs.lemmas.List.{get_or-map, length-map}
use Rattle.std.proofs.lemmas.List.Sums.{sum_by-cons}
use Rattle.std.proofs.Math.Seq.{drop-append-add, take-append_seam}
use Rattle.byteorder.specs.Endian.{little_number}
use Rattle.byteorder.specs.Numbers.{length-bytes_low_first, little_from-take, little_number-reads_back}
use Rattle.arrow_spec.specs.Arrays.{null_count, offsets, validity, value_of}
use Rattle.arrow_spec.specs.Bytes.{bitmap, byte_of_bits}
use Rattle.arrow_spec.proofs.BitLemmas.{bit_at-bitmap}
use Rattle.cell_model.specs.Values.{is_null}
use Rattle.cell_model.specs.declared.cell.Cell.{Cell}
use Rattle.cell_model.specs.declared.cell.Cell.TheVariants.{Null}
use Rattle.dict_gather.specs.Places.{placed_from}
use Rattle.dict_gather.specs.Starts.{start_in}

-- ---- which slots have a value

-- one more cell counts where it is null
pub null_count-cons : (cell : Cell) (cells : List Cell)
    → null_count (cell ∷ cells) ≡ (if is_null cell then 1 else 0) + null_count cells
null_count-cons cell cells = sum_by-cons (λ (c : Cell). if is_null c then 1 else 0) cell cells

not-counted : (null : Bool) (count : ℕ) → (if null then 1 else 0) + count ≡ 0 → (null ≡ false) × (count ≡ 0)
not-counted true count is = absurd (omega arith)
not-counted false count is = (refl, omega arith)

-- without a null no cell is one
pub none-null : (cells : List Cell) (i : ℕ) → null_count cells ≡ 0 → i < length cells
    → true ≡ not (is_null (get_or cells i Null))
none-null [] i none inside = absurd (omega arith)
none-null (cell ∷ cells) zero none inside =
    let here = not-counted (is_null cell) (null_count cells) (sym (null_count-cons cell cells) ∙ none) in
    ap not (sym here.0)
none-null (cell ∷ cells) (suc i) none inside =
    let here = not-counted (is_null cell) (null_count cells) (sym (null_count-cons cell cells) ∙ none) in
    none-null cells i here.1 (omega arith)

-- where there is a null the validity is a bitmap
validity-bits : (cells : List Cell) → (null_count cells ≡ 0 → ⊥)
    → validity cells ≡ bitmap (map (λ (cell : Cell). not (is_null cell)) cells)
validity-bits cells some =
    ap (λ (none : Bool). if none then [] else bitmap (map (λ (cell : Cell). not (is_null cell)) cells))
    (ne_eqb (null_count cells) 0 some)

length-chunks : (count : ℕ) (bits : List Bool) → length (map byte_of_bits (first_chunks 8 count bits)) ≡ count
length-chunks zero bits = refl
length-chunks (suc count) bits = ap suc (length-chunks count (drop 8 bits))

-- a validity has a byte for each eight slots
pub bitmap-room : (cells : List Cell) (bytes : List ℕ) (i : ℕ) → (null_count cells ≡ 0 → ⊥) → bytes ≡ validity cells → i < length cells
    → i / 8 < length bytes
bitmap-room cells bytes i some is inside =
    let bits : List Bool = map (λ (cell : Cell). not (is_null cell)) cells in
    let size : length (bitmap bits) ≡ (length bits + 7) / 8 = length-chunks ((length bits + 7) / 8) bits in
    let count : length bits ≡ length cells = length-map cells (λ (cell : Cell). not (is_null cell)) in
    let same : length bytes ≡ length (bitmap bits) = ap length (is ∙ validity-bits cells some) in
    omega arith

digit-back : (bit : Bool) → ((if bit then 1 else 0) == 1) ≡ bit
digit-back true = refl
digit-back false = refl

-- a slot's bit tells whether it has a value
pub valid-bit : (cells : List Cell) (bytes : List ℕ) (i : ℕ) → (null_count cells ≡ 0 → ⊥) → bytes ≡ validity cells → i < length cells
    → (bit_at (slice_index bytes (i / 8)) (i % 8) == 1) ≡ not (is_null (get_or cells i Null))
valid-bit cells bytes i some is inside =
    let bits : List Bool = map (λ (cell : Cell). not (is_null cell)) cells in
    ap (λ (all : List ℕ). bit_at (slice_index all (i / 8)) (i % 8) == 1) (is ∙ validity-bits cells some)
    ∙ ap (λ (n : ℕ). n == 1) (bit_at-bitmap bits i)
    ∙ digit-back (slice_index_or bits i false)
    ∙ get_or-map (λ (cell : Cell). not (is_null cell)) cells i Null false inside

-- ---- where a value lies

-- where the value of a slot begins
abbrev pub begins : List Cell → ℕ → ℕ
begins cells i = length (flat_map value_of (take i cells))

four-bytes : (n : ℕ) → length (to_le_bytes w32 n) ≡ 4
four-bytes n = length-bytes_low_first 0 4 n

-- there are four bytes for each slot, and four more
pub length-starts : (from : ℕ) (cells : List Cell)
    → length (flat_map (to_le_bytes w32) (offsets from cells)) ≡ 4 * (length cells + 1)
length-starts from [] = omega (arith, length-append (to_le_bytes w32 from) [], four-bytes from)
length-starts from (cell ∷ cells) =
    omega (
      arith,
      length-append (to_le_bytes w32 from) (flat_map (to_le_bytes w32) (offsets (from + length (value_of cell)) cells)),
      four-bytes from,
      length-starts (from + length (value_of cell)) cells,
    )

first-start : (from : ℕ) (rest : List ℕ) → from < 2 ^ 32
    → little_number 4 (to_le_bytes w32 from ++ rest) ≡ from
first-start from rest small = little_number-reads_back 4 from rest (omega arith)

later-start : (from i : ℕ) (rest : List ℕ) → drop (4 * suc i) (to_le_bytes w32 from ++ rest) ≡ drop (4 * i) rest
later-start from i rest =
    ap (λ (n : ℕ). drop n (to_le_bytes w32 from ++ rest)) (omega (arith, four-bytes from))
    ∙ drop-append-add (to_le_bytes w32 from) rest (4 * i)

start-from : (from : ℕ) (cells : List Cell) (i : ℕ) → i ≤ length cells → from + length (flat_map value_of cells) < 2 ^ 32
    → little_number 4 (drop (4 * i) (flat_map (to_le_bytes w32) (offsets from cells))) ≡ from + begins cells i
start-from from [] zero inside few = first-start from [] (omega arith) ∙ omega arith
start-from from [] (suc i) inside few = absurd (omega arith)
start-from from (cell ∷ cells) zero inside few =
    first-start from (flat_map (to_le_bytes w32) (offsets (from + length (value_of cell)) cells)) (omega arith) ∙ omega arith
start-from from (cell ∷ cells) (suc i) inside few =
    let more = length-append (value_of cell) (flat_map value_of cells) in
    let further = length-append (value_of cell) (flat_map value_of (take i cells)) in
    ap (little_number 4) (later-start from i (flat_map (to_le_bytes w32) (offsets (from + length (value_of cell)) cells)))
    ∙ start-from (from + length (value_of cell)) cells i (omega arith) (omega arith)
    ∙ omega arith

-- the number that is read in a slot is its offset
pub start-read : (number slot size : ℕ) (bytes : List ℕ) → number ≡ little_number 4 (take size (drop (4 * slot) bytes)) → 4 ≤ size
    → number ≡ start_in bytes slot
unfolding start_in
start-read number slot size bytes is long = is ∙ little_from-take 0 4 size (drop (4 * slot) bytes) (omega arith)

-- the offset in a slot is where its value begins
pub start-is : (cells : List Cell) (bytes values : List ℕ) (i : ℕ) → bytes ≡ flat_map (to_le_bytes w32) (offsets 0 cells)
    → values ≡ flat_map value_of cells → length values < 2 ^ 32 → i ≤ length cells → start_in bytes i ≡ begins cells i
unfolding start_in
start-is cells bytes values i is all few inside =
    let same : length values ≡ length (flat_map value_of cells) = ap length all in
    ap (λ (b : List ℕ). little_number 4 (drop (4 * i) b)) is ∙ start-from 0 cells i inside (omega arith) ∙ omega arith

-- the next begins where it ends
pub begins-next : (cells : List Cell) (i : ℕ) → i < length cells
    → begins cells (i + 1) ≡ begins cells i + length (value_of (get_or cells i Null))
begins-next [] i inside = absurd (omega arith)
begins-next (cell ∷ cells) zero inside = length-append (value_of cell) [] ∙ omega arith
begins-next (cell ∷ cells) (suc i) inside =
    let next : suc i + 1 ≡ suc (i + 1) = omega arith in
    let rest = begins-next cells i (omega arith) in
    ap (begins (cell ∷ cells)) next
    ∙ omega (
      arith,
      length-append (value_of cell) (flat_map value_of (take (i + 1) cells)),
      length-append (value_of cell) (flat_map value_of (take i cells)),
      rest,
    )

-- no value ends behind all
pub begins-within : (cells : List Cell) (i : ℕ) → begins cells i ≤ length (flat_map value_of cells)
begins-within [] zero = omega arith
begins-within [] (suc i) = omega arith
begins-within (cell ∷ cells) zero = omega arith
begins-within (cell ∷ cells) (suc i) =
    omega (
      arith,
      begins-within cells i,
      length-append (value_of cell) (flat_map value_of (take i cells)),
      length-append (value_of cell) (flat_map value_of cells),
    )

value-there : (cells : List Cell) (i : ℕ) → i < length cells
    → take (length (value_of (get_or cells i Null))) (drop (begins cells i) (flat_map value_of cells)) ≡ value_of (get_or cells i Null)
value-there [] i inside = absurd (omega arith)
value-there (cell ∷ cells) zero inside = take-append_seam (value_of cell) (flat_map value_of cells)
value-there (cell ∷ cells) (suc i) inside =
    ap (λ (n : ℕ). take (length (value_of (get_or cells i Null))) (drop n (value_of cell ++ flat_map value_of cells)))
    (length-append (value_of cell) (flat_map value_of (take i cells)))
    ∙ ap (take (length (value_of (get_or cells i Null)))) (drop-append-add (value_of cell) (flat_map value_of cells) (begins cells i))
    ∙ value-there cells i (omega arith)

-- a value is the piece between its offset and the next
pub value-is : (cells : List Cell) (values : List ℕ) (i begin end : ℕ) → values ≡ flat_map value_of cells → i < length cells
    → begin ≡ begins cells i → end ≡ begins cells (i + 1) → take (end - begin) (drop begin values) ≡ value_of (get_or cells i Null)
value-is cells values i begin end all inside first second =
    let size : end - begin ≡ length (value_of (get_or cells i Null)) = omega (arith, begins-next cells i inside) in
    ap (λ (n : ℕ). take n (drop begin values)) size
    ∙ ap (λ (n : ℕ). take (length (value_of (get_or cells i Null))) (drop n values)) first
    ∙ ap (λ (v : List ℕ). take (length (value_of (get_or cells i Null))) (drop (begins cells i) v)) all
    ∙ value-there cells i inside

-- ---- the values with their slots

-- the cells from a slot on begin with its own
pub cells-on : (cells : List Cell) (i : ℕ) → i < length cells → drop i cells ≡ get_or cells i Null ∷ drop (i + 1) cells
cells-on [] i inside = absurd (omega arith)
cells-on (cell ∷ cells) zero inside = refl
cells-on (cell ∷ cells) (suc i) inside =
    let next : suc i + 1 ≡ suc (i + 1) = omega arith in
    cells-on cells i (omega arith) ∙ ap (λ (n : ℕ). get_or cells i Null ∷ drop n (cell ∷ cells)) (sym next)

-- a null has no place
pub placed-null : (cells : List Cell) (i : ℕ) → i < length cells → false ≡ not (is_null (get_or cells i Null))
    → placed_from i (drop i cells) ≡ placed_from (i + 1) (drop (i + 1) cells)
placed-null cells i inside is =
    ap (placed_from i) (cells-on cells i inside)
    ∙ ap
    (λ (null : Bool). if null then placed_from (i + 1) (drop (i + 1) cells)
    else record { value = value_of (get_or cells i Null); slot = i } ∷ placed_from (i + 1) (drop (i + 1) cells))
    (null-told (is_null (get_or cells i Null)) is)
  where
    null-told : (null : Bool) → false ≡ not null → null ≡ true
    null-told true told = refl
    null-told false told = told

-- a value has one
pub placed-value : (cells : List Cell) (i : ℕ) → i < length cells → true ≡ not (is_null (get_or cells i Null))
    → placed_from i (drop i cells) ≡ record { value = value_of (get_or cells i Null); slot = i } ∷ placed_from (i + 1) (drop (i + 1) cells)
placed-value cells i inside is =
    ap (placed_from i) (cells-on cells i inside)
    ∙ ap
    (λ (null : Bool). if null then placed_from (i + 1) (drop (i + 1) cells)
    else record { value = value_of (get_or cells i Null); slot = i } ∷ placed_from (i + 1) (drop (i + 1) cells))
    (value-told (is_null (get_or cells i Null)) is)
  where
    value-told : (null : Bool) → true ≡ not null → null ≡ false
    value-told true told = told
    value-told false told = refl
