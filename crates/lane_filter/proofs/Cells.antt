-- The cells of a column, and what its buffers say of them.
use Rattle.std.proofs.Common.{◌≡◌, ℕ, zero, suc, ◌+◌, ◌-◌, ◌*◌, ◌/◌, ◌<◌, ◌≤◌, Bool, true, false, cond, not, ℤ, pos, ◌+ℤ◌, ◌*ℤ◌, List, [], ◌∷◌, ◌++◌, map, length, replicate, take, drop, refl, sym, ap, subst, ◌∙◌, arith, eqb, eqb-true}
use Rattle.std.specs.Prelude.{All, IsTrue, count_ones}
use Rattle.std.proofs.lemmas.Int.{ints}
use Rattle.std.proofs.lemmas.Bool.{cond-false, eqb-false, ne_eqb}
use Rattle.std.proofs.lemmas.List.{length-map, map-append, take_all}
use Rattle.std.proofs.lemmas.List.Sums.{count_by-le-length, length-filter, sum_by-append, sum_by-cons}
use Rattle.std.proofs.lemmas.Simd.{ones-mask_l}
use Rattle.std.proofs.Math.Seq.{take-add}
use Rattle.std.specs.Int.{byte_len, cast_unsigned, to_le_bytes}
use Rattle.std.specs.List.{count_by, filter, flat_map, sum_by}
use Rattle.std.specs.Simd.{first_chunks}
use lib.Lanes.{Each1, mask_l}
use mir.Syntax.{Width}
use Rattle.arrow_spec.specs.Arrays.{data_buffers, layout_in, null_count, number_of, validity}
use Rattle.arrow_spec.specs.Bytes.{bitmap, byte_of_bits, number_bytes}
use Rattle.cell_model.specs.Values.{is_between, is_null}
use Rattle.cell_model.specs.Widths.{number_width}
use Rattle.cell_model.specs.declared.cell.Cell.{Cell}
use Rattle.cell_model.specs.declared.cell.Cell.TheVariants.{Null, Num, Truth, Text, Blob}
use Rattle.cell_model.specs.declared.width.NumberWidth.{NumberWidth}
use Rattle.lane_filter.specs.declared.interval.Interval.{Interval}
use Rattle.lane_filter.specs.declared.numbers.Numbers.{Numbers}
use Rattle.lane_filter.specs.declared.numbers.Numbers.TheVariants.{Signed, Unsigned}
use Rattle.lane_filter.specs.Intervals.{Cuts, FitsWidth, chosen_offsets}
use Rattle.lane_filter.specs.Lanes.{is_within, kept_within, numbers_in, numbers_of, offset, offsets_in, steps_of, taken_of}
use Rattle.lane_filter.specs.Totals.{AreBuffersOf, AreValuesOf, IsNumber, is_number_between, is_slot_of, numbers_between, valid_in, values_in, width_of}
use Rattle.lane_filter.proofs.Ends.{ends_of, is_number, number_parts}
use Rattle.lane_filter.proofs.Offsets.{Chosen, bits_are, chosen, count_chosen, sum-cons, sum_chosen, sum_of}
use Rattle.lane_filter.proofs.Spelling.{length_bytes, steps_back, taken_more}

-- ---- what counts beside the cells' numbers

cond_same : (b : Bool) → zero ≡ cond {A = ℕ} b zero zero
cond_same true = refl
cond_same false = refl

cond_one : (b : Bool) (n : ℕ) → cond b 1 0 + cond b n 0 ≡ cond b (1 + n) 0
cond_one true n = refl
cond_one false n = refl

cond_sum : (b : Bool) (m n : ℕ) → cond b m 0 + cond b n 0 ≡ cond b (m + n) 0
cond_sum true m n = refl
cond_sum false m n = refl

zeros_between : (low high : ℤ) (n : ℕ) → count_by (is_between low high) (replicate n (pos 0)) ≡ cond (is_between low high (pos 0)) n 0
zeros_between low high zero = cond_same (is_between low high (pos 0))
zeros_between low high (suc n) =
    sum_by-cons (λ z. cond (is_between low high z) 1 0) (pos 0) (replicate n (pos 0))
    ∙ ap (λ (m : ℕ). cond (is_between low high (pos 0)) 1 0 + m) (zeros_between low high n)
    ∙ cond_one (is_between low high (pos 0)) n
    ∙ (let e : 1 + n ≡ suc n = omega arith in ap (λ (m : ℕ). cond (is_between low high (pos 0)) m 0) e)

-- one cell more: a null is a zero
null_counts : (b : Bool) (c d m : ℕ) → c ≡ d + cond b m 0 → cond b 1 0 + c ≡ (0 + d) + cond b (1 + m) 0
null_counts true c d m e = omega arith
null_counts false c d m e = omega arith

value_counts : (t b : Bool) (c d m : ℕ) → c ≡ d + cond b m 0 → cond t 1 0 + c ≡ (cond t 1 0 + d) + cond b (0 + m) 0
value_counts true true c d m e = omega arith
value_counts true false c d m e = omega arith
value_counts false true c d m e = omega arith
value_counts false false c d m e = omega arith

one_counts : (low high : ℤ) (cell : Cell) (c d m : ℕ) → c ≡ d + cond (is_between low high (pos 0)) m 0
    → cond (is_between low high (number_of cell)) 1 0 + c
    ≡ (cond (is_number_between low high cell) 1 0 + d) + cond (is_between low high (pos 0)) (cond (is_null cell) 1 0 + m) 0
one_counts low high Null c d m e = null_counts (is_between low high (pos 0)) c d m e
one_counts low high (Num z) c d m e = value_counts (is_between low high z) (is_between low high (pos 0)) c d m e
one_counts low high (Truth t) c d m e = value_counts (is_between low high (pos 0)) (is_between low high (pos 0)) c d m e
one_counts low high (Text t) c d m e = value_counts (is_between low high (pos 0)) (is_between low high (pos 0)) c d m e
one_counts low high (Blob t) c d m e = value_counts (is_between low high (pos 0)) (is_between low high (pos 0)) c d m e

cells_between : (low high : ℤ) (cells : List Cell) → count_by (is_between low high) (map number_of cells)
    ≡ count_by (is_number_between low high) cells + cond (is_between low high (pos 0)) (null_count cells) 0
cells_between low high [] = omega (arith, cond_same (is_between low high (pos 0)))
cells_between low high (cell ∷ cells) =
    sum_by-cons (λ z. cond (is_between low high z) 1 0) (number_of cell) (map number_of cells)
    ∙ one_counts low high cell (count_by (is_between low high) (map number_of cells)) (count_by (is_number_between low high) cells)
    (null_count cells) (cells_between low high cells)
    ∙ sym (λ i. sum_by-cons (λ x. cond (is_number_between low high x) 1 0) cell cells i
    + cond (is_between low high (pos 0)) (sum_by-cons (λ x. cond (is_null x) 1 0) cell cells i) 0)

-- Of the cells' numbers, with zeros for the nulls and behind them, so many more than of the cells
-- lie between two.
pub with_zeros : (low high : ℤ) (cells : List Cell) (k : ℕ)
    → count_by (is_between low high) (map number_of cells ++ replicate k (pos 0))
    ≡ length (numbers_between low high cells) + cond (is_between low high (pos 0)) (null_count cells + k) 0
with_zeros low high cells k =
    sum_by-append (λ z. cond (is_between low high z) 1 0) (map number_of cells) (replicate k (pos 0))
    ∙ omega (
      arith,
      cells_between low high cells,
      zeros_between low high k,
      length-map (filter (is_number_between low high) cells) number_of,
      length-filter (is_number_between low high) cells,
      cond_sum (is_between low high (pos 0)) (null_count cells) k,
    )

-- and their sum is that of the cells
zero_adds : (b : Bool) (zs : List ℤ) → sum_of (cond b (pos 0 ∷ zs) zs) ≡ sum_of zs
zero_adds true zs = sum-cons (pos 0) zs ∙ omega (arith, ints)
zero_adds false zs = refl

zeros_add : (low high : ℤ) (k : ℕ) → sum_of (filter (is_between low high) (replicate k (pos 0))) ≡ pos 0
zeros_add low high zero = refl
zeros_add low high (suc k) =
    zero_adds (is_between low high (pos 0)) (filter (is_between low high) (replicate k (pos 0))) ∙ zeros_add low high k

value_adds : (b : Bool) (z : ℤ) (xs ys : List ℤ) → sum_of xs ≡ sum_of ys → sum_of (cond b (z ∷ xs) xs) ≡ sum_of (cond b (z ∷ ys) ys)
value_adds true z xs ys e = sum-cons z xs ∙ ap (λ (s : ℤ). z +ℤ s) e ∙ sym (sum-cons z ys)
value_adds false z xs ys e = e

map_chosen : (b : Bool) (cell : Cell) (cells : List Cell) → cond b (number_of cell ∷ map number_of cells) (map number_of cells) ≡ map number_of (cond b (cell ∷ cells) cells)
map_chosen true cell cells = refl
map_chosen false cell cells = refl

value_step : (low high : ℤ) (cell : Cell) (cells : List Cell) (k : ℕ) (b : Bool)
    → sum_of (filter (is_between low high) (map number_of cells ++ replicate k (pos 0))) ≡ sum_of (numbers_between low high cells)
    → sum_of (cond b (number_of cell ∷ filter (is_between low high) (map number_of cells ++ replicate k (pos 0)))
    (filter (is_between low high) (map number_of cells ++ replicate k (pos 0))))
    ≡ sum_of (map number_of (cond b (cell ∷ filter (is_number_between low high) cells) (filter (is_number_between low high) cells)))
value_step low high cell cells k b e =
    value_adds b (number_of cell) (filter (is_between low high) (map number_of cells ++ replicate k (pos 0))) (numbers_between low high cells) e
    ∙ ap sum_of (map_chosen b cell (filter (is_number_between low high) cells))

pub sum_with_zeros : (low high : ℤ) (cells : List Cell) (k : ℕ)
    → sum_of (filter (is_between low high) (map number_of cells ++ replicate k (pos 0))) ≡ sum_of (numbers_between low high cells)
sum_with_zeros low high [] k = zeros_add low high k
sum_with_zeros low high (Null ∷ cells) k =
    zero_adds (is_between low high (pos 0)) (filter (is_between low high) (map number_of cells ++ replicate k (pos 0)))
    ∙ sum_with_zeros low high cells k
sum_with_zeros low high (Num z ∷ cells) k = value_step low high (Num z) cells k (is_between low high z) (sum_with_zeros low high cells k)
sum_with_zeros low high (Truth t ∷ cells) k = value_step low high (Truth t) cells k (is_between low high (pos 0)) (sum_with_zeros low high cells k)
sum_with_zeros low high (Text t ∷ cells) k = value_step low high (Text t) cells k (is_between low high (pos 0)) (sum_with_zeros low high cells k)
sum_with_zeros low high (Blob t ∷ cells) k = value_step low high (Blob t) cells k (is_between low high (pos 0)) (sum_with_zeros low high cells k)

-- ---- the numbers of the cells

slot_number : (numbers : Numbers) (cell : Cell) → IsTrue (is_slot_of numbers cell) → IsNumber numbers (number_of cell)
slot_number numbers Null slot = let e = ends_of numbers in is_number numbers (pos 0) e.none e.some
slot_number (Signed width) (Num z) slot = slot
slot_number (Unsigned width) (Num z) slot = slot
slot_number numbers (Truth t) slot = let e = ends_of numbers in is_number numbers (pos 0) e.none e.some
slot_number numbers (Text t) slot = let e = ends_of numbers in is_number numbers (pos 0) e.none e.some
slot_number numbers (Blob t) slot = let e = ends_of numbers in is_number numbers (pos 0) e.none e.some

slot_numbers : (numbers : Numbers) (cells : List Cell) (k : ℕ) → All (λ cell. IsTrue (is_slot_of numbers cell)) cells
    → Each1 (IsNumber numbers) (map number_of cells ++ replicate k (pos 0))
slot_numbers numbers [] zero slots = tt
slot_numbers numbers [] (suc k) slots = (slot_number numbers Null refl, slot_numbers numbers [] k slots)
slot_numbers numbers (cell ∷ cells) k slots =
    (slot_number numbers cell (slots 0 cell (omega arith)), slot_numbers numbers cells k (λ i d h. slots (suc i) d (omega arith)))

-- ---- the validity

bits_are_mask : (bits : List Bool) → byte_of_bits bits ≡ mask_l bits
bits_are_mask [] = refl
bits_are_mask (bit ∷ bits) = ap (λ n. cond bit 1 0 + 2 * n) (bits_are_mask bits)

map_id : (bits : List Bool) → map (λ bit. bit) bits ≡ bits
map_id [] = refl
map_id (bit ∷ bits) = ap (λ bs. bit ∷ bs) (map_id bits)

ones_of_byte : (bits : List Bool) → count_ones (byte_of_bits bits) ≡ count_by (λ bit. bit) bits
ones_of_byte bits = ap count_ones (bits_are_mask bits ∙ ap mask_l (sym (map_id bits))) ∙ ones-mask_l (λ bit. bit) bits

ones_of_chunks : (k : ℕ) (bits : List Bool) → sum_by count_ones (map byte_of_bits (first_chunks 8 k bits)) ≡ count_by (λ bit. bit) (take (8 * k) bits)
ones_of_chunks zero bits = let e : zero ≡ 8 * zero = omega arith in ap (λ (n : ℕ). count_by (λ bit. bit) (take n bits)) e
ones_of_chunks (suc k) bits =
    let e : 8 + 8 * k ≡ 8 * suc k = omega arith in
    sum_by-cons count_ones (byte_of_bits (take 8 bits)) (map byte_of_bits (first_chunks 8 k (drop 8 bits)))
    ∙ (λ i. ones_of_byte (take 8 bits) i + ones_of_chunks k (drop 8 bits) i)
    ∙ sym (sum_by-append (λ bit. cond bit 1 0) (take 8 bits) (take (8 * k) (drop 8 bits)))
    ∙ ap (count_by (λ bit. bit)) (sym (take-add 8 (8 * k) bits) ∙ ap (λ (n : ℕ). take n bits) e)

ones_of_bitmap : (bits : List Bool) → sum_by count_ones (bitmap bits) ≡ count_by (λ bit. bit) bits
ones_of_bitmap bits =
    ones_of_chunks ((length bits + 7) / 8) bits ∙ ap (count_by (λ bit. bit)) (take_all (8 * ((length bits + 7) / 8)) bits (omega arith))

valid_cells : (cells : List Cell) → count_by (λ bit. bit) (map (λ cell. not (is_null cell)) cells) + null_count cells ≡ length cells
valid_cells [] = refl
valid_cells (cell ∷ cells) =
    omega (
      arith,
      sum_by-cons (λ bit. cond bit 1 0) (not (is_null cell)) (map (λ cell. not (is_null cell)) cells),
      sum_by-cons (λ x. cond (is_null x) 1 0) cell cells,
      valid_cells cells,
      one (is_null cell),
    )
  where
    one : (b : Bool) → cond (not b) 1 0 + cond b 1 0 ≡ 1
    one true = refl
    one false = refl

length_chunks : (k : ℕ) (bits : List Bool) → length (map byte_of_bits (first_chunks 8 k bits)) ≡ k
length_chunks zero bits = refl
length_chunks (suc k) bits = ap suc (length_chunks k (drop 8 bits))

nulls_few : (cells : List Cell) → null_count cells ≤ length cells
nulls_few cells = count_by-le-length is_null cells

valid_by : (cells : List Cell) (b : Bool) → eqb (null_count cells) 0 ≡ b
    → valid_in (cond b [] (bitmap (map (λ cell. not (is_null cell)) cells))) (length cells) + null_count cells ≡ length cells
valid_by cells true none = omega (arith, eqb-true _ _ none)
valid_by cells false some =
    let bits = map (λ cell. not (is_null cell)) cells in
    let long : length (bitmap bits) ≡ (length bits + 7) / 8 = length_chunks ((length bits + 7) / 8) bits in
    let more : 0 < length (bitmap bits) =
    omega (arith, long, length-map cells (λ cell. not (is_null cell)), nulls_few cells, eqb-false _ _ some) in
    let counted : cond (eqb (length (bitmap bits)) 0) (length cells) (sum_by count_ones (bitmap bits)) ≡ sum_by count_ones (bitmap bits) =
    cond-false _ _ _ (ne_eqb (length (bitmap bits)) 0 (omega arith)) in
    omega (arith, counted, ones_of_bitmap bits, valid_cells cells)

-- how many cells are no null
pub valid_is : (cells : List Cell) (bytes : List ℕ) → bytes ≡ validity cells → valid_in bytes (length cells) + null_count cells ≡ length cells
valid_is cells bytes is =
    ap (λ bs. valid_in bs (length cells) + null_count cells) is ∙ valid_by cells (eqb (null_count cells) 0) refl

-- ---- the buffers

-- the bits of the cells' numbers
abbrev pub bits_in : Numbers → List ℤ → List ℕ
bits_in numbers zs = map (cast_unsigned (number_width (width_of numbers))) zs

bytes_of_cells : (w : Width) (cells : List Cell)
    → flat_map (λ cell. number_bytes w (number_of cell)) cells ≡ flat_map (to_le_bytes w) (map (cast_unsigned w) (map number_of cells))
bytes_of_cells w [] = refl
bytes_of_cells w (cell ∷ cells) = ap (λ bs. to_le_bytes w (cast_unsigned w (number_of cell)) ++ bs) (bytes_of_cells w cells)

pub values_are : (numbers : Numbers) (cells : List Cell) (bytes : List ℕ) → bytes ∷ [] ≡ data_buffers (layout_in (values_in numbers)) cells
    → bytes ≡ flat_map (to_le_bytes (number_width (width_of numbers))) (bits_in numbers (map number_of cells))
values_are (Signed width) cells bytes is =
    (let e : bytes ≡ flat_map (λ cell. number_bytes (number_width width) (number_of cell)) cells = cc in e) ∙ bytes_of_cells (number_width width) cells
values_are (Unsigned width) cells bytes is =
    (let e : bytes ≡ flat_map (λ cell. number_bytes (number_width width) (number_of cell)) cells = cc in e) ∙ bytes_of_cells (number_width width) cells

bits_below : (numbers : Numbers) (zs : List ℤ) → Each1 (IsNumber numbers) zs
    → Each1 (λ n. n < numbers_of (number_width (width_of numbers))) (bits_in numbers zs)
bits_below numbers [] each = tt
bits_below numbers (z ∷ zs) each = ((bits_are numbers z each.0).0, bits_below numbers zs each.1)

front_each : (numbers : Numbers) (xs ys : List ℤ) → Each1 (IsNumber numbers) (xs ++ ys) → Each1 (IsNumber numbers) xs
front_each numbers [] ys each = tt
front_each numbers (x ∷ xs) ys each = (each.0, front_each numbers xs ys each.1)

maps_of_steps : (w : Width) (from : ℕ) (steps : List (List ℕ))
    → flat_map (offsets_in w from) steps ≡ map (offset w from) (flat_map (numbers_in w) steps)
maps_of_steps w from [] = refl
maps_of_steps w from (step ∷ steps) =
    ap (λ xs. offsets_in w from step ++ xs) (maps_of_steps w from steps)
    ∙ sym (map-append (offset w from) (numbers_in w step) (flat_map (numbers_in w) steps))

bits_of_zeros : (w : Width) (k : ℕ) → replicate k 0 ≡ map (cast_unsigned w) (replicate k (pos 0))
bits_of_zeros w zero = refl
bits_of_zeros w (suc k) = ap (λ ns. 0 ∷ ns) (bits_of_zeros w k)

-- the numbers that are taken of a column's bytes: those of its cells, and zeros
abbrev pub taken_in : Numbers → List Cell → ℕ → List ℤ
taken_in numbers cells len =
    map number_of cells ++ replicate (taken_of (number_width (width_of numbers)) len - length cells) (pos 0)

pub offsets_are : (numbers : Numbers) (cells : List Cell) (bytes : List ℕ) (interval : Interval)
    → All (λ cell. IsTrue (is_slot_of numbers cell)) cells
    → bytes ≡ flat_map (to_le_bytes (number_width (width_of numbers))) (bits_in numbers (map number_of cells))
    → chosen_offsets (number_width (width_of numbers)) interval bytes
    ≡ map (offset (number_width (width_of numbers)) interval.from) (bits_in numbers (taken_in numbers cells (length bytes)))
offsets_are numbers cells bytes interval slots is =
    let w = number_width (width_of numbers) in
    let zs = map number_of cells in
    let ns = bits_in numbers zs in
    let k = taken_of w (length bytes) - length cells in
    let below = bits_below numbers zs (front_each numbers zs (replicate 0 (pos 0)) (slot_numbers numbers cells 0 slots)) in
    let long : length ns ≡ length cells = length-map zs (cast_unsigned w) ∙ length-map cells number_of in
    maps_of_steps w interval.from (steps_of bytes)
    ∙ ap (map (offset w interval.from)) (
    steps_back w ns bytes is below
    ∙ ap (λ (n : ℕ). ns ++ replicate (taken_of w (length bytes) - n) 0) long
    ∙ ap (λ xs. ns ++ xs) (bits_of_zeros w k)
    ∙ sym (map-append (cast_unsigned w) zs (replicate k (pos 0))))

-- ---- the total

pub record Sums (numbers : Numbers) (cells : List Cell) (low high : ℤ) (interval : Interval) (counted offsets k : ℕ) : Type 0 where
  pub count : counted ≡ length (numbers_between low high cells) + cond (is_between low high (pos 0)) (null_count cells + k) 0
  pub sum : (interval.low *ℤ pos counted) +ℤ pos offsets ≡ sum_of (numbers_between low high cells)

all_chosen : (numbers : Numbers) (low high : ℤ) (interval : Interval) → Cuts numbers low high interval → (zs : List ℤ)
    → Each1 (IsNumber numbers) zs → Each1 (Chosen low high interval (number_width (width_of numbers))) zs
all_chosen numbers low high interval cuts [] each = tt
all_chosen numbers low high interval cuts (z ∷ zs) each =
    (chosen numbers low high interval cuts z each.0, all_chosen numbers low high interval cuts zs each.1)

pub sums : (numbers : Numbers) (cells : List Cell) (bytes : List ℕ) (low high : ℤ) (interval : Interval) (count offsets : ℕ)
    → All (λ cell. IsTrue (is_slot_of numbers cell)) cells
    → bytes ≡ flat_map (to_le_bytes (number_width (width_of numbers))) (bits_in numbers (map number_of cells))
    → Cuts numbers low high interval
    → count ≡ count_by (is_within interval.span) (chosen_offsets (number_width (width_of numbers)) interval bytes)
    → offsets ≡ sum_by (kept_within interval.span) (chosen_offsets (number_width (width_of numbers)) interval bytes)
    → Sums numbers cells low high interval count offsets (taken_of (number_width (width_of numbers)) (length bytes) - length cells)
sums numbers cells bytes low high interval count offsets slots is cuts c o =
    let w = number_width (width_of numbers) in
    let k = taken_of w (length bytes) - length cells in
    let zs = taken_in numbers cells (length bytes) in
    let each = all_chosen numbers low high interval cuts zs (slot_numbers numbers cells k slots) in
    let are = offsets_are numbers cells bytes interval slots is in
    let counted : count ≡ count_by (is_between low high) zs =
    c ∙ ap (count_by (is_within interval.span)) are ∙ count_chosen low high interval w zs each in
    let added : offsets ≡ sum_by (kept_within interval.span) (map (offset w interval.from) (map (cast_unsigned w) zs)) =
    o ∙ ap (sum_by (kept_within interval.span)) are in
    record {
      count = counted ∙ with_zeros low high cells k;
      sum = (λ i. (interval.low *ℤ pos (counted i)) +ℤ pos (added i)) ∙ sum_chosen low high interval w zs each ∙ sum_with_zeros low high cells k;
    }

-- where nothing of the kind lies between, no cell does
no_cell : (numbers : Numbers) (low high : ℤ) → ((z : ℤ) → IsNumber numbers z → is_between low high z ≡ false) → (cell : Cell)
    → IsTrue (is_slot_of numbers cell) → is_number_between low high cell ≡ false
no_cell numbers low high none Null slot = refl
no_cell numbers low high none (Num z) slot = none z (slot_number numbers (Num z) slot)
no_cell numbers low high none (Truth t) slot = none (pos 0) (slot_number numbers (Truth t) slot)
no_cell numbers low high none (Text t) slot = none (pos 0) (slot_number numbers (Text t) slot)
no_cell numbers low high none (Blob t) slot = none (pos 0) (slot_number numbers (Blob t) slot)

pub no_cells : (numbers : Numbers) (low high : ℤ) → ((z : ℤ) → IsNumber numbers z → is_between low high z ≡ false) → (cells : List Cell)
    → All (λ cell. IsTrue (is_slot_of numbers cell)) cells → filter (is_number_between low high) cells ≡ []
no_cells numbers low high none [] slots = refl
no_cells numbers low high none (cell ∷ cells) slots =
    ap (λ b. cond b (cell ∷ filter (is_number_between low high) cells) (filter (is_number_between low high) cells))
    (no_cell numbers low high none cell (slots 0 cell (omega arith)))
    ∙ no_cells numbers low high none cells (λ i d h. slots (suc i) d (omega arith))

-- the interval's ends, as lanes hold them
pub fits_width : (numbers : Numbers) (low high : ℤ) (interval : Interval) (width : NumberWidth) → width ≡ width_of numbers
    → Cuts numbers low high interval → FitsWidth (number_width width) interval
fits_width numbers low high interval width e cuts =
    let w = number_width (width_of numbers) in
    let ends = ends_of numbers in
    let p = number_parts numbers interval.low cuts.least in
    let q = number_parts numbers (interval.low +ℤ pos interval.span) cuts.most in
    let bits = bits_are numbers interval.low cuts.least in
    let one : FitsWidth w interval = record {
      from = omega (arith, cuts.from, bits.0);
      span = omega (arith, ints, ends.whole, p.0, q.1);
    } in
    let P : NumberWidth → Type 0 = λ v. FitsWidth (number_width v) interval in subst P (sym e) one

-- the bytes of a column are no more than its cells have
pub column_long : (numbers : Numbers) (cells : List Cell) (values : List ℕ) → values ∷ [] ≡ data_buffers (layout_in (values_in numbers)) cells
    → length values ≡ length cells * byte_len (number_width (width_of numbers))
column_long numbers cells values are =
    let w = number_width (width_of numbers) in
    ap length (values_are numbers cells values are) ∙ length_bytes w (bits_in numbers (map number_of cells))
    ∙ ap (λ (n : ℕ). n * byte_len w) (length-map (map number_of cells) (cast_unsigned w) ∙ length-map cells number_of)

taken_less : (b : Bool) (count l n nulls valid taken none : ℕ) → count ≡ l + cond b (nulls + (taken - n)) 0 → valid + nulls ≡ n → n ≤ taken
    → none ≡ taken - valid → count - cond b none 0 ≡ l
taken_less true count l n nulls valid taken none c v t z = omega (arith, c, v, t, z)
taken_less false count l n nulls valid taken none c v t z = omega (arith, c)

-- What is chosen of a column's bytes, less the zeros that are of no cell, is its total.
pub is_total : (numbers : Numbers) (cells : List Cell) (nulls : ℕ) (values bytes : List ℕ) (low high : ℤ) (interval : Interval) (width : NumberWidth)
    (count offsets valid none less : ℕ) → AreValuesOf numbers cells nulls values → width ≡ width_of numbers → bytes ≡ values
    → Cuts numbers low high interval → count ≡ count_by (is_within interval.span) (chosen_offsets (number_width width) interval bytes)
    → offsets ≡ sum_by (kept_within interval.span) (chosen_offsets (number_width width) interval bytes)
    → valid ≡ length cells - nulls → none ≡ taken_of (number_width width) (length bytes) - valid
    → less ≡ cond (is_between low high (pos 0)) none 0
    → (count - less ≡ length (numbers_between low high cells))
    × ((interval.low *ℤ pos count) +ℤ pos offsets ≡ sum_of (numbers_between low high cells))
is_total numbers cells nulls values bytes low high interval width count offsets valid none less are e same cuts c o v z l =
    let w = number_width (width_of numbers) in
    let is = values_are numbers cells values are.values in
    let long = column_long numbers cells values are.values in
    let s = sums numbers cells values low high interval count offsets are.slots is cuts
    (c ∙ (λ i. count_by (is_within interval.span) (chosen_offsets (number_width (e i)) interval (same i))))
    (o ∙ (λ i. sum_by (kept_within interval.span) (chosen_offsets (number_width (e i)) interval (same i)))) in
    let zeros_are : none ≡ taken_of w (length values) - valid = z ∙ (λ i. taken_of (number_width (e i)) (length (same i)) - valid) in
    let valid_are : valid + null_count cells ≡ length cells = omega (arith, v, are.nulls, nulls_few cells) in (
      ap (λ (n : ℕ). count - n) l
          ∙ taken_less (is_between low high (pos 0)) count (length (numbers_between low high cells)) (length cells) (null_count cells) valid
          (taken_of w (length values)) none s.count valid_are (taken_more w (length cells) (length values) long) zeros_are,
      s.sum,
    )

-- buffers are values of which as many are null as have no valid bit
pub values_of_buffers : (numbers : Numbers) (cells : List Cell) (validity values : List ℕ) (slots nulls valid : ℕ) → length cells ≡ slots
    → valid ≡ valid_in validity slots → nulls ≡ slots - valid → AreBuffersOf numbers cells validity values → AreValuesOf numbers cells nulls values
values_of_buffers numbers cells validity values slots nulls valid long v n are =
    let is = valid_is cells validity are.validity in
    let same : valid_in validity slots ≡ valid_in validity (length cells) = ap (valid_in validity) (sym long) in
    record {
      slots = are.slots;
      nulls = omega (arith, is, same, v, n, long);
      values = are.values;
    }
