-- The cells of a column, read back from its buffers.
use Rattle.std.proofs.Common.{◌≡◌, ℕ, ℤ, pos, negsuc, zero, suc, ◌+◌, ◌-◌, ◌*◌, ◌^◌, ◌<◌, ◌≤◌, Bool, true, false, List, [], ◌∷◌, ◌++◌, length, take, drop, get_or, replicate, refl, sym, ap, ◌∙◌, subst, arith, length-append, lit<}
use Rattle.std.specs.Prelude.{not, ◌==◌, ◌&&◌, nat_le, int_le, flat_map, if◌then◌else◌}
use Rattle.std.proofs.lemmas.Bool.{and_parts, and_from, or_right, eqb-true, leb-true, le-leb}
use Rattle.std.proofs.lemmas.List.{length-replicate, length-take-le, take-append-le, take_all}
use Rattle.std.proofs.lemmas.Int.{to_z_pos}
use Rattle.std.proofs.lemmas.List.FromFn.{fill_by_all}
use Rattle.std.specs.Int.{Width, w8, w16, w32, w64, w128, byte_len, cast_signed, to_le_bytes}
use Rattle.std.specs.List.{list_all, range_with_len}
use Rattle.std.specs.Str.{is_utf8}
use mir.Val.{SFits, hbits}
use Rattle.cell_model.specs.Kinds.{are_texts, most_bytes_in}
use Rattle.cell_model.specs.Values.{is_signed_of, is_unsigned_of, is_value_in, is_null, are_bytes, byte_length}
use Rattle.cell_model.specs.Widths.{number_width, offset_width, most_between}
use Rattle.cell_model.specs.declared.cell.Cell.{Cell}
use Rattle.cell_model.specs.declared.cell.Cell.TheVariants.{Null, Num, Truth, Text, Blob}
use Rattle.cell_model.specs.declared.values.Values.{Values}
use Rattle.cell_model.specs.declared.values.Values.TheVariants.{Signed, Unsigned, Truths, Texts, Blobs, Strips}
use Rattle.cell_model.specs.declared.width.OffsetWidth.{OffsetWidth}
use Rattle.cell_model.specs.declared.width.OffsetWidth.TheVariants as offset
use Rattle.arrow_spec.specs.Arrays.{layout_in, data_buffers, validity, number_of, offsets, strip_of, value_of as bytes_of_value, truth_of}
use Rattle.arrow_spec.specs.Bytes.{number_bytes}
use Rattle.flat_read.specs.Reading.{number_from}
use Rattle.stream_spec.specs.Columns.{are_offsets, has_offsets, offset_of, value_of, value_at, cell_at, cells_of, is_text}
use Rattle.stream_laws.proofs.Pieces.{Has, has-number, has-signed, has-taken, length-number}
use Rattle.stream_laws.proofs.Parts.{begins, piece-there, begins-next, begins-within, begins-even}
use Rattle.stream_laws.proofs.Bitmaps.{valid-back, truth-back}

-- ---- what a slot may hold

-- a slot is null, or has one of the values, which is not too long
pub data IsSlot (values : Values) (cell : Cell) : Type 0 where
  null : is_null cell ≡ true → IsSlot values cell
  value : is_null cell ≡ false → is_value_in values cell ≡ true → byte_length cell ≤ most_bytes_in values
      → IsSlot values cell

-- each cell is null or one of the values, not too long
abbrev pub AllSlots : Values → List Cell → Type 0
AllSlots values cells = (i : ℕ) → i < length cells → IsSlot values (get_or cells i Null)

-- ---- numbers

-- Half the range of a width is one power of two, by its bytes and by its bits.
half : (width : Width) → 2 ^ (8 * byte_len width - 1) ≡ 2 ^ hbits width
half w8 = refl
half w16 = refl
half w32 = refl
half w64 = refl
half w128 = refl

-- The range of a width is the same power, by its bits and by its bytes.
whole : (width : Width) → 2 ^ (8 * byte_len width) ≡ 256 ^ byte_len width
whole w8 = refl
whole w16 = refl
whole w32 = refl
whole w64 = refl
whole w128 = refl

-- Half the range of a width is more than zero.
half_some : (width : Width) → 0 < 2 ^ hbits width
half_some w8 = lit< tt
half_some w16 = lit< tt
half_some w32 = lit< tt
half_some w64 = lit< tt
half_some w128 = lit< tt

-- The range of a width is more than zero.
whole_some : (width : Width) → 0 < 256 ^ byte_len width
whole_some w8 = lit< tt
whole_some w16 = lit< tt
whole_some w32 = lit< tt
whole_some w64 = lit< tt
whole_some w128 = lit< tt

-- A number that is a signed value of a width fits the width.
signed-fits : (width : Width) (number : ℤ) → is_signed_of width number ≡ true
    → SFits width number
signed-fits width (pos n) test =
    let top : ℕ = 2 ^ (8 * byte_len width - 1) - 1 in
    let high : n ≤ top =
    leb-true n top (and_parts (int_le (negsuc top) (pos n)) (int_le (pos n) (pos top)) test).1 in
    record { sfits = omega (arith, half width, half_some width, high) }
signed-fits width (negsuc n) test =
    let top : ℕ = 2 ^ (8 * byte_len width - 1) - 1 in
    let low : n ≤ top =
    leb-true n top (and_parts (int_le (negsuc top) (negsuc n)) (int_le (negsuc n) (pos top))
    test).0 in
    record { sfits = omega (arith, half width, half_some width, low) }

module _ (width : Width) (cells : List Cell) (i : ℕ) (inside : i < length cells) where
  -- The bytes of a cell's number in this width.
  abbrev bytes_of_cell : Cell → List ℕ
  bytes_of_cell cell = number_bytes width (number_of cell)

  -- The bytes of the numbers of all cells, one behind the other.
  abbrev buffer : List ℕ
  buffer = flat_map bytes_of_cell cells

  -- The number of a cell stands in the buffer at the cell's place.
  number-there : (cell : Cell) → get_or cells i Null ≡ cell
      → Has buffer (i * byte_len width) (bytes_of_cell cell)
  number-there cell is =
      let P : ℕ → Type 0 = λ n. Has buffer n (bytes_of_cell (get_or cells i Null)) in
      let Q : Cell → Type 0 = λ c. Has buffer (i * byte_len width) (bytes_of_cell c) in
      let even =
      begins-even bytes_of_cell (byte_len width) cells i (λ c. length-number width _)
      (omega arith) in
      subst Q is (subst P even (piece-there bytes_of_cell cells i Null inside))

  -- A number with a sign is read back from its cell's place.
  signed-back : (number : ℤ) → get_or cells i Null ≡ Num number
      → is_signed_of width number ≡ true
      → cast_signed width (number_from buffer (i * byte_len width) (byte_len width)) ≡ number
  signed-back number is test =
      has-signed buffer (i * byte_len width) width number (signed-fits width number test)
      (number-there (Num number) is)

  -- A number without a sign is read back from its cell's place.
  unsigned-back : (number : ℤ) → get_or cells i Null ≡ Num number
      → is_unsigned_of width number ≡ true
      → pos (number_from buffer (i * byte_len width) (byte_len width)) ≡ number
  unsigned-back (pos n) is test =
      let top : ℕ = 2 ^ (8 * byte_len width) - 1 in
      let high : n ≤ top =
      leb-true n top (and_parts (int_le (pos 0) (pos n)) (int_le (pos n) (pos top)) test).1 in
      ap pos (has-number buffer (i * byte_len width) width n
      (omega (arith, whole width, whole_some width, high)) (number-there (Num (pos n)) is))
  unsigned-back (negsuc n) is test = absurd (cc)

-- ---- values of any length

-- offsets begin where the values begin
offset-is : (from : ℕ) (cells : List Cell) (i : ℕ) → i ≤ length cells
    → get_or (offsets from cells) i 0 ≡ from + begins bytes_of_value cells i
offset-is from [] zero inside = omega arith
offset-is from [] (suc i) inside = absurd (omega arith)
offset-is from (cell ∷ cells) zero inside = omega arith
offset-is from (cell ∷ cells) (suc i) inside =
    offset-is (from + length (bytes_of_value cell)) cells i (omega arith)
    ∙ omega (arith, length-append (bytes_of_value cell) (flat_map bytes_of_value (take i cells)))

-- there is one offset more than cells
pub length-offsets : (from : ℕ) (cells : List Cell) → length (offsets from cells) ≡ length cells + 1
length-offsets from [] = refl
length-offsets from (cell ∷ cells) =
    omega (arith, length-offsets (from + length (bytes_of_value cell)) cells)

-- a number below half the range of a width is below the whole
below_whole : (width : Width) (n : ℕ) → n < 2 ^ hbits width → n < 256 ^ byte_len width
below_whole w8 n below = omega arith
below_whole w16 n below = omega arith
below_whole w32 n below = omega arith
below_whole w64 n below = omega arith
below_whole w128 n below = omega arith

-- the values together are few enough for offsets of a width, which have a sign
abbrev pub FitOffsets : Width → List Cell → Type 0
FitOffsets width cells = length (flat_map bytes_of_value cells) < 2 ^ hbits width

module _ (width : Width) (cells : List Cell) (few : FitOffsets width cells) where
  -- The bytes of the offsets.
  abbrev ends : List ℕ
  ends = flat_map (to_le_bytes width) (offsets 0 cells)

  -- The bytes of all values, one behind the other.
  abbrev values_bytes : List ℕ
  values_bytes = flat_map bytes_of_value cells

  -- Where the value of a cell begins among the bytes of the values.
  abbrev begin : ℕ → ℕ
  begin i = begins bytes_of_value cells i

  -- an offset reads as where its value begins
  pub offset-back : (i : ℕ) → i ≤ length cells → offset_of width ends i ≡ pos (begin i)
  offset-back i inside =
      let words : List ℕ = offsets 0 cells in
      let room : i < length words = omega (arith, length-offsets 0 cells) in
      let is : get_or words i 0 ≡ begin i = offset-is 0 cells i inside ∙ omega arith in
      let small : begin i < 2 ^ hbits width =
      omega (arith, few, begins-within bytes_of_value cells i) in
      let even : begins (to_le_bytes width) words i ≡ i * byte_len width =
      begins-even (to_le_bytes width) (byte_len width) words i (length-number width) (omega arith) in
      let P : ℕ → Type 0 = λ n. Has ends n (to_le_bytes width (get_or words i 0)) in
      let Q : ℕ → Type 0 = λ n. Has ends (i * byte_len width) (to_le_bytes width n) in
      let there = subst Q is (subst P even (piece-there (to_le_bytes width) words i 0 room)) in
      ap (cast_signed width) (has-number ends (i * byte_len width) width (begin i)
      (below_whole width (begin i) small) there)
      ∙ to_z_pos width (begin i) small

  -- between two offsets the bytes of a value stand
  pub value-back : (i : ℕ) → i < length cells
      → value_of width ends values_bytes i ≡ bytes_of_value (get_or cells i Null)
  value-back i inside =
      let cell : Cell = get_or cells i Null in
      let piece : List ℕ = bytes_of_value cell in
      let low = offset-back i (omega arith) in
      let high = offset-back (i + 1) (omega arith) in
      let long : begin (i + 1) - begin i ≡ length piece =
      omega (arith, begins-next bytes_of_value cells i Null inside) in
      rw (low, high, long) (has-taken values_bytes (begin i) piece
      (piece-there bytes_of_value cells i Null inside))

  -- No offset of a stretch is above the one behind it.
  all-rise : (k n : ℕ) → k + n ≤ length cells
      → list_all (λ i. int_le (offset_of width ends i) (offset_of width ends (i + 1))) (range_with_len k n)
      ≡ true
  all-rise k zero inside = refl
  all-rise k (suc n) inside =
      let low = offset-back k (omega arith) in
      let high = offset-back (k + 1) (omega arith) in
      let rises : nat_le (begin k) (begin (k + 1)) ≡ true =
      le-leb (begin k) (begin (k + 1)) (omega
      (arith, begins-next bytes_of_value cells k Null (omega arith))) in
      and_from (int_le (offset_of width ends k) (offset_of width ends (k + 1)))
      (list_all (λ i. int_le (offset_of width ends i) (offset_of width ends (i + 1)))
      (range_with_len (k + 1) n))
      (rw (low, high) rises)
      (all-rise (k + 1) n (omega arith))

  -- the offsets that were laid are lawful
  pub offsets-lawful : are_offsets width ends values_bytes (length cells) ≡ true
  offsets-lawful =
      let rows : ℕ = length cells in
      let first = offset-back 0 (omega arith) in
      let last = offset-back rows (omega arith) in
      let positive : nat_le 0 (begin 0) ≡ true = le-leb 0 (begin 0) (omega arith) in
      let ending : nat_le (begin rows) (length values_bytes) ≡ true =
      le-leb (begin rows) (length values_bytes) (begins-within bytes_of_value cells rows) in
      let rising = all-rise 0 rows (omega arith) in
      let low : int_le (pos 0) (offset_of width ends 0) ≡ true = rw first positive in
      let high : int_le (offset_of width ends rows) (pos (length values_bytes)) ≡ true = rw last ending in
      let rise : Bool =
      list_all (λ i. int_le (offset_of width ends i) (offset_of width ends (i + 1))) (range_with_len 0 rows) in
      or_right (rows == 0) (int_le (pos 0) (offset_of width ends 0) && rise && int_le
      (offset_of width ends rows) (pos (length values_bytes)))
      (and_from (int_le (pos 0) (offset_of width ends 0) && rise)
      (int_le (offset_of width ends rows) (pos (length values_bytes)))
      (and_from (int_le (pos 0) (offset_of width ends 0)) rise low rising) high)

-- ---- values of equally many bytes

-- a value of so many bytes has them
pub length-strip : (bytes : ℕ) (cell : Cell) → length (strip_of bytes cell) ≡ bytes
length-strip bytes cell =
    let own : List ℕ = bytes_of_value cell in
    let zeros : List ℕ = replicate bytes 0 in
    let all : length (own ++ zeros) ≡ length own + length zeros = length-append own zeros in
    let long : length zeros ≡ bytes = length-replicate bytes 0 in
    length-take-le bytes (own ++ zeros) (omega arith)

-- a value that has so many bytes is kept as it is
strip-same : (width : ℕ) (bytes : List ℕ) → length bytes ≡ width
    → strip_of width (Blob bytes) ≡ bytes
strip-same width bytes same =
    rw (take-append-le width bytes (replicate width 0) (omega arith))
    (take_all width bytes (omega arith))

-- the bytes of a value stand behind those of the values before it
strip-back : (bytes : ℕ) (cells : List Cell) (i : ℕ) → i < length cells
    → take bytes (drop (i * bytes) (flat_map (strip_of bytes) cells))
    ≡ strip_of bytes (get_or cells i Null)
strip-back bytes cells i inside =
    let piece : List ℕ = strip_of bytes (get_or cells i Null) in
    let buffer : List ℕ = flat_map (strip_of bytes) cells in
    let even : begins (strip_of bytes) cells i ≡ i * bytes =
    begins-even (strip_of bytes) bytes cells i (length-strip bytes) (omega arith) in
    let P : ℕ → Type 0 = λ n. Has buffer n piece in
    let there = subst P even (piece-there (strip_of bytes) cells i Null inside) in
    ap (λ (n : ℕ). take n (drop (i * bytes) buffer)) (sym (length-strip bytes (get_or cells i Null)))
    ∙ has-taken buffer (i * bytes) piece there

-- ---- a column

-- a value is as long as its cell says
length-value : (cell : Cell) → length (bytes_of_value cell) ≡ byte_length cell
length-value Null = refl
length-value (Num number) = refl
length-value (Truth truth) = refl
length-value (Text text) = refl
length-value (Blob bytes) = refl

-- A null is of no bytes.
null-length : (cell : Cell) → is_null cell ≡ true → byte_length cell ≡ 0
null-length Null is = refl
null-length (Num number) is = absurd (cc)
null-length (Truth truth) is = absurd (cc)
null-length (Text text) is = absurd (cc)
null-length (Blob bytes) is = absurd (cc)

-- What a slot may hold has at most as many bytes as a value may have.
slot-short : (values : Values) (cell : Cell) → IsSlot values cell
    → length (bytes_of_value cell) ≤ most_bytes_in values
slot-short values cell (null is) = omega (arith, length-value cell, null-length cell is)
slot-short values cell (value some is short) = omega (arith, length-value cell, short)

-- the values of a column have together at most the most bytes of each
pub values-short : (values : Values) (cells : List Cell) → AllSlots values cells
    → length (flat_map bytes_of_value cells) ≤ length cells * most_bytes_in values
values-short values [] slots = omega arith
values-short values (cell ∷ cells) slots =
    let first = slot-short values cell (slots 0 (omega arith)) in
    let rest = values-short values cells (λ i inside. slots (suc i) (omega arith)) in
    omega (arith, length-append (bytes_of_value cell) (flat_map bytes_of_value cells), first, rest)

-- at most 2^15 values of the most bytes are few enough for the offsets between them
few-between : (width : OffsetWidth) (count total : ℕ) → count ≤ 2 ^ 15
    → total ≤ count * most_between width → total < 2 ^ hbits (offset_width width)
few-between offset.Bits32 count total few short = omega arith
few-between offset.Bits64 count total few short = omega arith

-- texts and bytes are few enough for their offsets
abbrev pub Few : Values → List Cell → Type 0
Few (Signed width) cells = Unit {0}
Few (Unsigned width) cells = Unit {0}
Few Truths cells = Unit {0}
Few (Texts width) cells = FitOffsets (offset_width width) cells
Few (Blobs width) cells = FitOffsets (offset_width width) cells
Few (Strips bytes) cells = Unit {0}

-- the values of at most 2^15 cells are few enough for their offsets
pub values-few : (values : Values) (cells : List Cell) → AllSlots values cells
    → length cells ≤ 2 ^ 15 → Few values cells
values-few (Signed width) cells slots few = tt
values-few (Unsigned width) cells slots few = tt
values-few Truths cells slots few = tt
values-few (Texts width) cells slots few =
    few-between width (length cells) (length (flat_map bytes_of_value cells)) few
    (values-short (Texts width) cells slots)
values-few (Blobs width) cells slots few =
    few-between width (length cells) (length (flat_map bytes_of_value cells)) few
    (values-short (Blobs width) cells slots)
values-few (Strips bytes) cells slots few = tt

-- the value in a slot
slot-value : (values : Values) (cells : List Cell) (i : ℕ) (cell : Cell) → Few values cells
    → i < length cells → get_or cells i Null ≡ cell → is_value_in values cell ≡ true
    → value_at values (data_buffers (layout_in values) cells) i ≡ cell
slot-value (Signed width) cells i (Num number) few inside is test =
    ap Num (signed-back (number_width width) cells i inside number is test)
slot-value (Unsigned width) cells i (Num number) few inside is test =
    ap Num (unsigned-back (number_width width) cells i inside number is test)
slot-value Truths cells i (Truth truth) few inside is test =
    ap Truth (truth-back cells i inside ∙ ap truth_of is)
slot-value (Texts width) cells i (Text text) few inside is test =
    ap Text (value-back (offset_width width) cells few i inside ∙ ap bytes_of_value is)
slot-value (Blobs width) cells i (Blob bytes) few inside is test =
    ap Blob (value-back (offset_width width) cells few i inside ∙ ap bytes_of_value is)
slot-value (Strips width) cells i (Blob bytes) few inside is test =
    let same : length bytes ≡ width =
    eqb-true (length bytes) width (and_parts (length bytes == width) (are_bytes bytes) test).0 in
    ap Blob (strip-back width cells i inside ∙ ap (strip_of width) is ∙ strip-same width bytes same)
slot-value values cells i cell few inside is test = absurd (cc)

-- A cell that is tested to be null is null.
null-is : (cell : Cell) → is_null cell ≡ true → cell ≡ Null
null-is Null is = refl
null-is (Num number) is = absurd (cc)
null-is (Truth truth) is = absurd (cc)
null-is (Text text) is = absurd (cc)
null-is (Blob bytes) is = absurd (cc)

-- the cell in a slot
cell-back : (values : Values) (cells : List Cell) (i : ℕ) → Few values cells → i < length cells
    → IsSlot values (get_or cells i Null)
    → cell_at values (validity cells) (data_buffers (layout_in values) cells) i
    ≡ get_or cells i Null
cell-back values cells i few inside (null is) =
    let there : Cell = value_at values (data_buffers (layout_in values) cells) i in
    ap (λ (valid : Bool). if valid then there else Null) (valid-back cells i inside ∙ ap not is)
    ∙ sym (null-is (get_or cells i Null) is)
cell-back values cells i few inside (value some is short) =
    let there : Cell = value_at values (data_buffers (layout_in values) cells) i in
    ap (λ (valid : Bool). if valid then there else Null) (valid-back cells i inside ∙ ap not some)
    ∙ slot-value values cells i (get_or cells i Null) few inside refl is

-- The cells are read back.
pub cells-back : (values : Values) (cells : List Cell) → Few values cells → AllSlots values cells
    → cells_of values (validity cells) (data_buffers (layout_in values) cells) (length cells)
    ≡ cells
cells-back values cells few slots =
    sym (fill_by_all (cell_at values (validity cells) (data_buffers (layout_in values) cells)) cells
    (length cells) Null refl
    (λ i inside. sym (cell-back values cells i few inside (slots i inside))))

-- the offsets are lawful
pub offsets-are : (values : Values) (cells : List Cell) → Few values cells
    → has_offsets values (data_buffers (layout_in values) cells) (length cells) ≡ true
offsets-are (Signed width) cells few = refl
offsets-are (Unsigned width) cells few = refl
offsets-are Truths cells few = refl
offsets-are (Texts width) cells few = offsets-lawful (offset_width width) cells few
offsets-are (Blobs width) cells few = offsets-lawful (offset_width width) cells few
offsets-are (Strips bytes) cells few = refl

-- What a slot may hold is in UTF-8 where it is a text.
slot-text : (values : Values) (cell : Cell) → IsSlot values cell → is_text cell ≡ true
slot-text values Null slot = refl
slot-text values (Num number) slot = refl
slot-text values (Truth truth) slot = refl
slot-text values (Text text) (null is) = absurd (cc)
slot-text values (Text text) (value some is short) =
    (and_parts (are_texts values) (is_utf8 text) is).1
slot-text values (Blob bytes) slot = refl

-- each text is one in UTF-8
pub texts-are : (values : Values) (cells : List Cell) → AllSlots values cells
    → list_all is_text cells ≡ true
texts-are values [] slots = refl
texts-are values (cell ∷ cells) slots =
    and_from (is_text cell) (list_all is_text cells) (slot-text values cell (slots 0 (omega arith)))
    (texts-are values cells (λ i inside. slots (suc i) (omega arith)))
