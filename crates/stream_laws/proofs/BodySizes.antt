-- How many bytes the body of a batch has at most, so that each number that tells of it fits 64 bits
-- with a sign.
use Rattle.std.proofs.Common.{◌≡◌, ℕ, ◌+◌, ◌*◌, ◌^◌, ◌<◌, ◌≤◌, List, [], ◌∷◌, ◌++◌, length, map, get_or, ap, ◌∙◌, arith, inl, inr, length-append}
use Rattle.std.specs.Prelude.{flat_map, true, nat_le}
use Rattle.std.specs.List.{All}
use Rattle.std.proofs.lemmas.Bool.{and_parts, leb-true}
use Rattle.std.proofs.lemmas.List.Elements.{All-head, All-tail}
use Rattle.std.proofs.lemmas.List.{length-map}
use Rattle.std.proofs.lemmas.List.Concat.{flat_map-append}
use Rattle.std.proofs.lemmas.List.Sums.{count_by-le-length}
use Rattle.std.specs.Int.{Width, w8, w16, w32, w64, w128, byte_len, to_le_bytes}
use Rattle.std.proofs.Math.Nat.{mul-le-mul_left}
use Rattle.cell_model.specs.Kinds.{values_of, has_width}
use Rattle.cell_model.specs.Schemas.{IsName}
use Rattle.cell_model.specs.Widths.{number_width, offset_width, most_between, is_byte_width}
use Rattle.cell_model.specs.Values.{is_null}
use Rattle.cell_model.specs.declared.cell.Cell.{Cell}
use Rattle.cell_model.specs.declared.cell.Cell.TheVariants.{Null}
use Rattle.cell_model.specs.declared.column.Column.{Column}
use Rattle.cell_model.specs.declared.values.Values.{Values}
use Rattle.cell_model.specs.declared.values.Values.TheVariants.{Signed, Unsigned, Truths, Texts, Blobs, Strips}
use Rattle.cell_model.specs.declared.width.OffsetWidth.{OffsetWidth}
use Rattle.cell_model.specs.declared.width.OffsetWidth.TheVariants as offset
use Rattle.arrow_spec.specs.Arrays.{layout_in, data_buffers, variable, validity, value_of, strip_of, number_of, offsets, truth_of, null_count}
use Rattle.arrow_spec.specs.Batches.{buffer_places, column_cells}
use Rattle.arrow_spec.specs.Bytes.{bitmap, number_bytes, padded}
use Rattle.stream_spec.specs.Columns.{bitmap_length}
use Rattle.stream_laws.proofs.Frames.{length-padded}
use Rattle.stream_laws.proofs.Parts.{length-pieces}
use Rattle.stream_laws.proofs.BatchTables.{AllFit}
use Rattle.stream_laws.proofs.Bitmaps.{length-bitmap, validity-long}
use Rattle.stream_laws.proofs.Buffers.{HasBuffers, length-ends, length-numbers}
use Rattle.stream_laws.proofs.Cells.{AllSlots, length-strip, values-short}
use Rattle.stream_laws.proofs.Rows.{AllFrom, buffers_from, column-slots, nodes_from}

-- A number of any width has at most sixteen bytes.
byte_len_small : (width : Width) → byte_len width ≤ 16
byte_len_small w8 = omega arith
byte_len_small w16 = omega arith
byte_len_small w32 = omega arith
byte_len_small w64 = omega arith
byte_len_small w128 = omega arith

-- a buffer with its padding
pub padded-short : (buffer : List ℕ) → length (padded buffer) ≤ length buffer + 7
padded-short buffer = omega (arith, length-padded buffer)

-- One buffer alone takes at most seven bytes more than it may have.
one-short : (most : ℕ) (buffer : List ℕ) → length buffer ≤ most
    → length (flat_map padded (buffer ∷ [])) ≤ most + 7
one-short most buffer short = omega (arith, length-append (padded buffer) [], padded-short buffer)

-- The numbers of at most 2^15 cells take at most 2^19 bytes.
numbers-short : (width : Width) (cells : List Cell) → length cells ≤ 2 ^ 15
    → length (flat_map (λ cell. number_bytes width (number_of cell)) cells) ≤ 2 ^ 19
numbers-short width cells few =
    let product : length cells * byte_len width ≤ length cells * 16 =
    mul-le-mul_left (length cells) (byte_len_small width) in
    omega (arith, length-numbers width cells, product)

-- The validity of at most 2^15 cells has at most 2^13 bytes.
pub validity-short : (cells : List Cell) → length cells ≤ 2 ^ 15 → length (validity cells) ≤ 2 ^ 13
validity-short cells few =
    elim (validity-long cells) [ inl none ↦ omega arith | inr all ↦ omega arith ]

-- Values of at most 2^15 cells between offsets have at most 2^35 bytes.
between-short : (width : OffsetWidth) (count total : ℕ) → count ≤ 2 ^ 15
    → total ≤ count * most_between width → total ≤ 2 ^ 35
between-short offset.Bits32 count total few short = omega arith
between-short offset.Bits64 count total few short = omega arith

-- Offsets and values of at most 2^15 cells take at most 2^36 bytes with padding.
variable-short : (width : OffsetWidth) (cells : List Cell) → length cells ≤ 2 ^ 15
    → length (flat_map value_of cells) ≤ length cells * most_between width
    → length (flat_map padded (data_buffers (variable (offset_width width)) cells)) ≤ 2 ^ 36
variable-short width cells few values =
    let ends : List ℕ = flat_map (to_le_bytes (offset_width width)) (offsets 0 cells) in
    let product : (length cells + 1) * byte_len (offset_width width) ≤ (length cells + 1) * 16 =
    mul-le-mul_left (length cells + 1) (byte_len_small (offset_width width)) in
    let short = between-short width (length cells) (length (flat_map value_of cells)) few values in
    let rest = one-short (2 ^ 35) (flat_map value_of cells) short in
    omega (
      arith,
      length-append (padded ends) (flat_map padded (flat_map value_of cells ∷ [])),
      padded-short ends,
      length-ends (offset_width width) cells,
      product,
      rest,
    )

-- Values of so many bytes each of at most 2^15 cells take at most 2^36 bytes with padding.
strips-short : (bytes : ℕ) (cells : List Cell) → length cells ≤ 2 ^ 15 → is_byte_width bytes ≡ true
    → length (flat_map padded (flat_map (strip_of bytes) cells ∷ [])) ≤ 2 ^ 36
strips-short bytes cells few width =
    let most : bytes ≤ 1024 = leb-true bytes 1024 (and_parts (nat_le 1 bytes) (nat_le bytes 1024) width).1 in
    let product : length cells * bytes ≤ length cells * 1024 = mul-le-mul_left (length cells) most in
    let long = length-pieces (strip_of bytes) bytes cells (length-strip bytes) in
    let rest = one-short (2 ^ 25) (flat_map (strip_of bytes) cells) (omega arith) in
    omega arith

-- The data of at most 2^15 cells takes at most 2^36 bytes with padding.
pub data-short : (values : Values) (cells : List Cell) → length cells ≤ 2 ^ 15
    → has_width values ≡ true → AllSlots values cells
    → length (flat_map padded (data_buffers (layout_in values) cells)) ≤ 2 ^ 36
data-short (Signed width) cells few wide slots =
    omega (
      arith,
      one-short (2 ^ 19)
          (flat_map (λ cell. number_bytes (number_width width) (number_of cell)) cells)
          (numbers-short (number_width width) cells few),
    )
data-short (Unsigned width) cells few wide slots =
    omega (
      arith,
      one-short (2 ^ 19)
          (flat_map (λ cell. number_bytes (number_width width) (number_of cell)) cells)
          (numbers-short (number_width width) cells few),
    )
data-short Truths cells few wide slots =
    let long : length (bitmap (map truth_of cells)) ≡ bitmap_length (length cells) =
    length-bitmap (map truth_of cells) ∙ ap bitmap_length (length-map cells truth_of) in
    omega (arith, one-short (2 ^ 13) (bitmap (map truth_of cells)) (omega arith))
data-short (Texts width) cells few wide slots =
    variable-short width cells few (values-short (Texts width) cells slots)
data-short (Blobs width) cells few wide slots =
    variable-short width cells few (values-short (Blobs width) cells slots)
data-short (Strips bytes) cells few wide slots = strips-short bytes cells few wide

-- the buffers of the columns, counted from a number on
pub body-short : (k : ℕ) (columns : List Column) (rows : List (List Cell)) → length rows ≤ 2 ^ 15
    → All IsName columns → AllFrom k columns rows
    → length (flat_map padded (buffers_from k columns rows)) ≤ 2 ^ 37 * length columns
body-short k [] rows few named all = omega arith
body-short k (column ∷ columns) rows few named all =
    let values : Values = values_of column.kind in
    let cells : List Cell = column_cells k rows in
    let long : length cells ≡ length rows = length-map rows (λ row. get_or row k Null) in
    let filled : List (List ℕ) = data_buffers (layout_in values) cells in
    let more : List (List ℕ) = buffers_from (k + 1) columns rows in
    let wide = (All-head IsName column columns named).2 in
    let own = data-short values cells (omega arith) wide (column-slots k column columns rows all) in
    let valid = validity-short cells (omega arith) in
    let rest = body-short (k + 1) columns rows few (All-tail IsName column columns named) (λ i inside. (all i inside).1) in
    let split : length (flat_map padded (filled ++ more))
    ≡ length (flat_map padded filled) + length (flat_map padded more) =
    ap length (flat_map-append padded filled more)
    ∙ length-append (flat_map padded filled) (flat_map padded more) in
    omega (
      arith,
      length-append (padded (validity cells)) (flat_map padded (filled ++ more)),
      padded-short (validity cells),
      own,
      valid,
      rest,
      split,
    )

-- places in a body fit
pub places-fit : (body : List ℕ) (from : ℕ) (buffers : List (List ℕ)) → length body < 2 ^ 63
    → HasBuffers body from buffers → AllFit (buffer_places from buffers)
places-fit body from [] small has = tt
places-fit body from (buffer ∷ buffers) small has = (
  record { sfits = omega (arith, has.0.within) },
  record { sfits = omega (arith, has.0.within) },
  places-fit body (from + length (padded buffer)) buffers small has.1,
)

-- counts of rows and nulls fit
pub nodes-fit : (k : ℕ) (columns : List Column) (rows : List (List Cell)) → length rows ≤ 2 ^ 15
    → AllFit (nodes_from k columns rows)
nodes-fit k [] rows few = tt
nodes-fit k (column ∷ columns) rows few =
    let cells : List Cell = column_cells k rows in
    let long : length cells ≡ length rows = length-map rows (λ row. get_or row k Null) in
    let nulls : null_count cells ≤ length cells = count_by-le-length is_null cells in (
      record { sfits = omega arith },
      record { sfits = omega arith },
      nodes-fit (k + 1) columns rows
          few,
    )
