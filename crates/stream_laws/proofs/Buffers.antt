-- The buffers of a column, where they lie in a body one after another, read as its cells.
use Rattle.std.proofs.Common.{◌≡◌, ℕ, pos, suc, ◌+◌, ◌-◌, ◌*◌, ◌^◌, ◌≤◌, true, List, [], ◌∷◌, ◌++◌, length, map, replicate, refl, ap, ◌∙◌, subst, arith, inl, inr, length-append, Ok}
use Rattle.std.specs.Prelude.{◌==◌, ◌||◌, nat_le, flat_map}
use Rattle.std.proofs.lemmas.Bool.{and_from, or_left, or_right, le-leb, le-ltb, eq-eqb}
use Rattle.std.specs.Int.{Width, byte_len, next_multiple_of, to_le_bytes}
use Rattle.std.specs.Ordering.{int_eq}
use Rattle.cell_model.specs.Widths.{number_width, offset_width}
use Rattle.std.proofs.lemmas.List.{length-map}
use Rattle.cell_model.specs.declared.cell.Cell.{Cell}
use Rattle.cell_model.specs.declared.values.Values.{Values}
use Rattle.cell_model.specs.declared.values.Values.TheVariants.{Signed, Unsigned, Truths, Texts, Blobs, Strips}
use Rattle.arrow_spec.specs.Arrays.{layout_in, data_buffers, validity, null_count, number_of, offsets, strip_of, truth_of}
use Rattle.arrow_spec.specs.Batches.{buffer_places}
use Rattle.arrow_spec.specs.Bytes.{number_bytes, padded}
use Rattle.stream_spec.specs.declared.message.BufferPlace.{BufferPlace}
use Rattle.stream_spec.specs.Columns.{are_buffers, bitmap_length, bytes_of, column_of, data_count, data_needs, is_buffer, is_validity, lies_in}
use Rattle.stream_laws.proofs.Pieces.{Has, has-left, has-right, has-taken, length-number}
use Rattle.stream_laws.proofs.Parts.{length-pieces}
use Rattle.stream_laws.proofs.BatchTables.{buffer_of}
use Rattle.stream_laws.proofs.Bitmaps.{length-bitmap, nulls-back, validity-long}
use Rattle.stream_laws.proofs.Cells.{AllSlots, cells-back, length-offsets, length-strip, offsets-are, texts-are, values-few}

-- ---- buffers one after another

-- the body has the buffers, each behind the padding of the one before
abbrev pub HasBuffers : List ℕ → ℕ → List (List ℕ) → Type 0
HasBuffers body from [] = Unit {0}
HasBuffers body from (buffer ∷ buffers) =
    Has body from buffer × HasBuffers body (from + length (padded buffer)) buffers

-- where the buffers lie, as the reader has it
abbrev pub places : ℕ → List (List ℕ) → List BufferPlace
places from buffers = map buffer_of (buffer_places from buffers)

-- buffers that stand padded one after another are each in the body
pub buffers-there : (body : List ℕ) (from : ℕ) (buffers : List (List ℕ))
    → Has body from (flat_map padded buffers) → HasBuffers body from buffers
buffers-there body from [] has = tt
buffers-there body from (buffer ∷ buffers) has =
    let zeros : List ℕ = replicate (next_multiple_of (length buffer) 8 - length buffer) 0 in (
      has-left body from buffer zeros (has-left body from (padded buffer) (flat_map padded buffers)
          has),
      buffers-there body (from + length (padded buffer)) buffers
          (has-right body from (padded buffer) (flat_map padded buffers) has),
    )

-- the first buffers, and those behind them
pub buffers-split : (body : List ℕ) (from : ℕ) (some more : List (List ℕ))
    → HasBuffers body from (some ++ more)
    → HasBuffers body from some × HasBuffers body (from + length (flat_map padded some)) more
buffers-split body from [] more has =
    let P : ℕ → Type 0 = λ n. HasBuffers body n more in
    (tt, subst P (omega arith) has)
buffers-split body from (buffer ∷ some) more has =
    let rest = buffers-split body (from + length (padded buffer)) some more has.1 in
    let P : ℕ → Type 0 = λ n. HasBuffers body n more in (
      (has.0, rest.0),
      subst P (omega (arith, length-append (padded buffer) (flat_map padded some)))
          rest.1,
    )

-- the places of more buffers begin where the first end
pub places-split : (from : ℕ) (some more : List (List ℕ))
    → places from (some ++ more) ≡ places from some
    ++ places (from + length (flat_map padded some)) more
places-split from [] more = ap (λ (n : ℕ). places n more) (omega arith)
places-split from (buffer ∷ some) more =
    let end : from + length (padded buffer) + length (flat_map padded some)
    ≡ from + length (flat_map padded (buffer ∷ some)) =
    omega (arith, length-append (padded buffer) (flat_map padded some)) in
    let first : BufferPlace = buffer_of (pos from, pos (length buffer)) in
    ap (λ (all : List BufferPlace). first ∷ all)
    (places-split (from + length (padded buffer)) some more
    ∙ ap (λ (n : ℕ). places (from + length (padded buffer)) some ++ places n more) end)

-- there are as many places as buffers
pub length-places : (from : ℕ) (buffers : List (List ℕ))
    → length (places from buffers) ≡ length buffers
length-places from [] = refl
length-places from (buffer ∷ buffers) =
    ap suc (length-places (from + length (padded buffer)) buffers)

-- each place tells the bytes of its buffer
bytes-back : (body : List ℕ) (from : ℕ) (buffers : List (List ℕ)) → HasBuffers body from buffers
    → map (bytes_of body) (places from buffers) ≡ buffers
bytes-back body from [] has = refl
bytes-back body from (buffer ∷ buffers) has =
    let first : bytes_of body (buffer_of (pos from, pos (length buffer))) ≡ buffer =
    has-taken body from buffer has.0 in
    rw (first, bytes-back body (from + length (padded buffer)) buffers has.1) refl

-- a buffer lies in the body
lies : (body : List ℕ) (from : ℕ) (buffer : List ℕ) → Has body from buffer
    → lies_in body (buffer_of (pos from, pos (length buffer))) ≡ true
lies body from buffer has =
    let low : nat_le 0 from ≡ true = le-leb 0 from (omega arith) in
    let some : nat_le 0 (length buffer) ≡ true = le-leb 0 (length buffer) (omega arith) in
    let high : nat_le (from + length buffer) (length body) ≡ true =
    le-leb (from + length buffer) (length body) has.within in
    rw (low, some, high) refl

-- the buffers are as long as they need to be
abbrev AreLong : List ℕ → List (List ℕ) → Type 0
AreLong needs [] = Unit {0}
AreLong [] (buffer ∷ buffers) = Unit {0}
AreLong (need ∷ needs) (buffer ∷ buffers) = (need ≤ length buffer) × AreLong needs buffers

-- Buffers that lie in the body and are long enough pass the reader's test.
buffers-are : (body : List ℕ) (from rows : ℕ) (needs : List ℕ) (buffers : List (List ℕ))
    → HasBuffers body from buffers → AreLong needs buffers
    → are_buffers body rows needs (places from buffers) ≡ true
buffers-are body from rows [] [] has long = refl
buffers-are body from rows (need ∷ needs) [] has long = refl
buffers-are body from rows [] (buffer ∷ buffers) has long = refl
buffers-are body from rows (need ∷ needs) (buffer ∷ buffers) has long =
    let place : BufferPlace = buffer_of (pos from, pos (length buffer)) in
    and_from (is_buffer body rows need place)
    (are_buffers body rows needs (places (from + length (padded buffer)) buffers))
    (and_from (lies_in body place) (rows == 0 || nat_le need (length buffer))
    (lies body from buffer has.0)
    (or_right (rows == 0) (nat_le need (length buffer)) (le-leb need (length buffer) long.0)))
    (buffers-are body (from + length (padded buffer)) rows needs buffers has.1 long.1)

-- numbers take so many bytes for each cell
pub length-numbers : (width : Width) (cells : List Cell)
    → length (flat_map (λ cell. number_bytes width (number_of cell)) cells)
    ≡ length cells * byte_len width
length-numbers width cells =
    length-pieces (λ cell. number_bytes width (number_of cell)) (byte_len width) cells
    (λ cell. length-number width _)

-- offsets take so many bytes for each cell and one more
pub length-ends : (width : Width) (cells : List Cell)
    → length (flat_map (to_le_bytes width) (offsets 0 cells)) ≡ (length cells + 1) * byte_len width
length-ends width cells =
    length-pieces (to_le_bytes width) (byte_len width) (offsets 0 cells) (length-number width)
    ∙ ap (λ (n : ℕ). n * byte_len width) (length-offsets 0 cells)

-- The data buffers of a column are at least as long as its cells need.
data-long : (values : Values) (cells : List Cell)
    → AreLong (data_needs values (length cells)) (data_buffers (layout_in values) cells)
data-long (Signed width) cells = (omega (arith, length-numbers (number_width width) cells), tt)
data-long (Unsigned width) cells = (omega (arith, length-numbers (number_width width) cells), tt)
data-long Truths cells = (
  omega (
    arith,
    length-bitmap (map truth_of cells)
        ∙ ap bitmap_length (length-map cells truth_of),
  ),
  tt,
)
data-long (Texts width) cells = (
  omega (arith, length-ends (offset_width width) cells),
  (omega arith, tt),
)
data-long (Blobs width) cells = (
  omega (arith, length-ends (offset_width width) cells),
  (omega arith, tt),
)
data-long (Strips bytes) cells = (
  omega (arith, length-pieces (strip_of bytes) bytes cells (length-strip bytes)),
  tt,
)

-- The validity of a column passes the reader's test where it lies in the body.
validity-is : (body : List ℕ) (from : ℕ) (cells : List Cell) → Has body from (validity cells)
    → is_validity body (length cells) (buffer_of (pos from, pos (length (validity cells)))) ≡ true
validity-is body from cells has =
    let size : ℕ = length (validity cells) in
    let rows : ℕ = length cells in
    and_from (lies_in body (buffer_of (pos from, pos size)))
    (size == 0 || (rows == 0 || nat_le (bitmap_length rows) size))
    (lies body from (validity cells) has)
    (elim (validity-long cells) [
      | inl none ↦ or_left (size == 0) (rows == 0 || nat_le (bitmap_length rows) size)
          (eq-eqb size 0 none)
      | inr all ↦
          or_right (size == 0) (rows == 0 || nat_le (bitmap_length rows) size)
          (or_right (rows == 0) (nat_le (bitmap_length rows) size)
          (le-leb (bitmap_length rows) size (omega (arith, all))))
    ])

-- a count is tested to be itself
pub same-count : (n : ℕ) → int_eq (pos n) (pos n) ≡ true
same-count n = let test = le-ltb n n (omega arith) in rw test refl

-- how many buffers stand behind the validity
pub length-data : (values : Values) (cells : List Cell)
    → length (data_buffers (layout_in values) cells) ≡ data_count values
length-data (Signed width) cells = refl
length-data (Unsigned width) cells = refl
length-data Truths cells = refl
length-data (Texts width) cells = refl
length-data (Blobs width) cells = refl
length-data (Strips bytes) cells = refl

-- The cells of a column are read back from where its buffers lie.
pub column-read : (body : List ℕ) (from : ℕ) (values : Values) (cells : List Cell)
    → HasBuffers body from (validity cells ∷ data_buffers (layout_in values) cells)
    → AllSlots values cells → length cells ≤ 2 ^ 15
    → column_of body (length cells) values (pos (null_count cells))
    (buffer_of (pos from, pos (length (validity cells))))
    (places (from + length (padded (validity cells))) (data_buffers (layout_in values) cells))
    ≡ Ok cells
column-read body from values cells has slots short =
    let filled : List (List ℕ) = data_buffers (layout_in values) cells in
    let few = values-few values cells slots short in
    let behind : ℕ = from + length (padded (validity cells)) in
    let first : bytes_of body (buffer_of (pos from, pos (length (validity cells))))
    ≡ validity cells = has-taken body from (validity cells) has.0 in
    let others : map (bytes_of body) (places behind filled) ≡ filled =
    bytes-back body behind filled has.1 in
    let one = validity-is body from cells has.0 in
    let two =
    buffers-are body behind (length cells) (data_needs values (length cells)) filled has.1
    (data-long values cells) in
    let counted = nulls-back cells in
    let rising = offsets-are values cells few in
    let all = cells-back values cells few slots in
    let encoded = texts-are values cells slots in
    rw (one, two, first, counted, same-count (null_count cells), others, rising, all, encoded) refl
