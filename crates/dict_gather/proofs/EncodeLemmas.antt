-- A column by its dictionary: the buffers that are read, and those that are made.
use Rattle.std.proofs.Common.{◌≡◌, ℕ, suc, ◌+◌, ◌*◌, ◌<◌, ◌≤◌, Bool, true, false, List, [], ◌∷◌, ◌++◌, length, map, get_or, pos, refl, sym, ap, ◌∙◌, arith, length-append, Some, None}
use Rattle.std.specs.Prelude.{not, ◌==◌, flat_map, if◌then◌else◌}
use Rattle.std.specs.BTreeSet.{insert_key}
use Rattle.std.specs.Cmp.Lexicographic.{slice_cmp}
use Rattle.std.specs.Int.{w32, w64, to_le_bytes}
use Rattle.std.specs.Ordering.{match_ordering, nat_cmp}
use Rattle.std.specs.declared.cmp.Ordering.{Ordering}
use Rattle.std.specs.declared.cmp.Ordering.TheVariants.{Less, Equal, Greater}
use Rattle.std.proofs.lemmas.Bool.{true≢false}
use Rattle.std.proofs.lemmas.List.{get_or_default, length-map}
use Rattle.byteorder.specs.Numbers.{length-bytes_low_first}
use Rattle.arrow_spec.specs.Arrays.{Layout, variable, data_buffers, layout_in, null_count, number_of, offsets, validity, value_of}
use Rattle.arrow_spec.specs.Batches.{Array}
use Rattle.arrow_spec.specs.Bytes.{bitmap, number_bytes}
use Rattle.arrow_array.specs.Batches.{AreFew}
use Rattle.cell_model.specs.Kinds.{values_of}
use Rattle.cell_model.specs.Values.{is_null}
use Rattle.cell_model.specs.declared.cell.Cell.{Cell}
use Rattle.cell_model.specs.declared.cell.Cell.TheVariants.{Null, Num}
use Rattle.cell_model.specs.declared.kind.Kind.{Kind}
use Rattle.cell_model.specs.declared.kind.Kind.TheVariants.{I32}
use Rattle.cell_model.specs.declared.values.Values.{Values}
use Rattle.cell_model.specs.declared.values.Values.TheVariants.{Signed, Unsigned, Truths, Texts, Blobs, Strips}
use Rattle.cell_model.specs.declared.width.OffsetWidth.TheVariants as offset
use Rattle.arrow_spec.specs.DictBatches.{Dictionary, array_of, column_dictionary, dictionary_with, encoded_array}
use Rattle.arrow_spec.specs.Dictionaries.{are_encoded, dictionary_cells, dictionary_of, index_cells, index_in, is_encoded, place_in, value_cell}
use Rattle.dict_gather.specs.Places.{indices_of}
use Rattle.dict_gather.specs.Values.{starts_from, value_buffers_of}
use Rattle.dict_gather.proofs.SlotLemmas.{length-starts, null_count-cons}

-- ---- which columns are encoded, by their buffers

-- the buffers of a column of these values
abbrev buffers_in : Values → List Cell → List (List ℕ)
buffers_in values cells = validity cells ∷ data_buffers (layout_in values) cells

long-starts : (from : ℕ) (cells : List Cell) → length (flat_map (to_le_bytes w64) (offsets from cells)) ≡ 8 * (length cells + 1)
long-starts from [] = omega (arith, length-append (to_le_bytes w64 from) [], length-bytes_low_first 0 8 from)
long-starts from (cell ∷ cells) =
    omega (
      arith,
      length-append (to_le_bytes w64 from) (flat_map (to_le_bytes w64) (offsets (from + length (value_of cell)) cells)),
      length-bytes_low_first 0 8 from,
      long-starts (from + length (value_of cell)) cells,
    )

not-three : (values : Values) (cells : List Cell) → (length (buffers_in values cells) ≡ 3 → ⊥) → false ≡ are_encoded values
not-three (Signed width) cells other = refl
not-three (Unsigned width) cells other = refl
not-three Truths cells other = refl
not-three (Texts offset.Bits32) cells other = absurd (other refl)
not-three (Texts offset.Bits64) cells other = refl
not-three (Blobs offset.Bits32) cells other = absurd (other refl)
not-three (Blobs offset.Bits64) cells other = refl
not-three (Strips bytes) cells other = refl

not-short : (values : Values) (cells : List Cell) → (length (get_or (buffers_in values cells) 1 []) ≡ 4 * (length cells + 1) → ⊥) → false ≡ are_encoded values
not-short (Signed width) cells other = refl
not-short (Unsigned width) cells other = refl
not-short Truths cells other = refl
not-short (Texts offset.Bits32) cells other = absurd (other (length-starts 0 cells))
not-short (Texts offset.Bits64) cells other = refl
not-short (Blobs offset.Bits32) cells other = absurd (other (length-starts 0 cells))
not-short (Blobs offset.Bits64) cells other = refl
not-short (Strips bytes) cells other = refl

both-told : (values : Values) (cells : List Cell) → length (buffers_in values cells) ≡ 3
    → length (get_or (buffers_in values cells) 1 []) ≡ 4 * (length cells + 1) → true ≡ are_encoded values
both-told (Signed width) cells three short = absurd (omega arith)
both-told (Unsigned width) cells three short = absurd (omega arith)
both-told Truths cells three short = absurd (omega arith)
both-told (Texts offset.Bits32) cells three short = refl
both-told (Texts offset.Bits64) cells three short = absurd (omega (arith, long-starts 0 cells))
both-told (Blobs offset.Bits32) cells three short = refl
both-told (Blobs offset.Bits64) cells three short = absurd (omega (arith, long-starts 0 cells))
both-told (Strips bytes) cells three short = absurd (omega arith)

-- other than three buffers are those of no column that is encoded
pub no-three : (kind : Kind) (cells : List Cell) (buffers : List (List ℕ)) → buffers ≡ (array_of kind cells).buffers → (length buffers ≡ 3 → ⊥)
    → false ≡ is_encoded kind
no-three kind cells buffers is other = not-three (values_of kind) cells (λ three. other (ap length is ∙ three))

-- nor are other than four bytes of offsets for each row and four more
pub no-short : (kind : Kind) (cells : List Cell) (buffers : List (List ℕ)) → buffers ≡ (array_of kind cells).buffers
    → (length (get_or buffers 1 []) ≡ 4 * (length cells + 1) → ⊥) → false ≡ is_encoded kind
no-short kind cells buffers is other =
    not-short (values_of kind) cells (λ short. other (ap (λ (b : List (List ℕ)). length (get_or b 1 [])) is ∙ short))

-- with both the column is encoded
pub short-told : (kind : Kind) (cells : List Cell) (buffers : List (List ℕ)) → buffers ≡ (array_of kind cells).buffers → length buffers ≡ 3
    → length (get_or buffers 1 []) ≡ 4 * (length cells + 1) → true ≡ is_encoded kind
short-told kind cells buffers is three short =
    both-told (values_of kind) cells (sym (ap length is) ∙ three) (sym (ap (λ (b : List (List ℕ)). length (get_or b 1 [])) is) ∙ short)

encoded-layout : (values : Values) → are_encoded values ≡ true → layout_in values ≡ variable w32
encoded-layout (Signed width) is = absurd (true≢false (sym is))
encoded-layout (Unsigned width) is = absurd (true≢false (sym is))
encoded-layout Truths is = absurd (true≢false (sym is))
encoded-layout (Texts offset.Bits32) is = refl
encoded-layout (Texts offset.Bits64) is = absurd (true≢false (sym is))
encoded-layout (Blobs offset.Bits32) is = refl
encoded-layout (Blobs offset.Bits64) is = absurd (true≢false (sym is))
encoded-layout (Strips bytes) is = absurd (true≢false (sym is))

-- the buffers of a column that is encoded
pub encoded-buffers : (kind : Kind) (cells : List Cell) → is_encoded kind ≡ true
    → (array_of kind cells).buffers ≡ validity cells ∷ flat_map (to_le_bytes w32) (offsets 0 cells) ∷ flat_map value_of cells ∷ []
encoded-buffers kind cells is = ap (λ (layout : Layout). validity cells ∷ data_buffers layout cells) (encoded-layout (values_of kind) is)

-- what is made where a column is encoded, and where it is not
pub dictionary-there : (kind : Kind) (cells : List Cell) → is_encoded kind ≡ true
    → Some (dictionary_with kind (dictionary_cells kind cells)) ≡ column_dictionary kind cells
dictionary-there kind cells is =
    ap (λ (test : Bool). if test then Some (dictionary_with kind (dictionary_cells kind cells)) else None) (sym is)

pub dictionary-lacks : (kind : Kind) (cells : List Cell) → is_encoded kind ≡ false → None ≡ column_dictionary kind cells
dictionary-lacks kind cells is =
    ap (λ (test : Bool). if test then Some (dictionary_with kind (dictionary_cells kind cells)) else None) (sym is)

pub array-there : (kind : Kind) (cells : List Cell) → is_encoded kind ≡ true → array_of I32 (index_cells cells) ≡ encoded_array kind cells
array-there kind cells is =
    ap (λ (test : Bool). if test then array_of I32 (index_cells cells) else array_of kind cells) (sym is)

pub array-lacks : (kind : Kind) (cells : List Cell) → is_encoded kind ≡ false → array_of kind cells ≡ encoded_array kind cells
array-lacks kind cells is =
    ap (λ (test : Bool). if test then array_of I32 (index_cells cells) else array_of kind cells) (sym is)

-- ---- the dictionary

cell-value : (values : Values) (value : List ℕ) → value_of (value_cell values value) ≡ value
cell-value (Signed width) value = refl
cell-value (Unsigned width) value = refl
cell-value Truths value = refl
cell-value (Texts width) value = refl
cell-value (Blobs width) value = refl
cell-value (Strips bytes) value = refl

cell-there : (values : Values) (value : List ℕ) → is_null (value_cell values value) ≡ false
cell-there (Signed width) value = refl
cell-there (Unsigned width) value = refl
cell-there Truths value = refl
cell-there (Texts width) value = refl
cell-there (Blobs width) value = refl
cell-there (Strips bytes) value = refl

no-nulls : (sort : Values) (values : List (List ℕ)) → null_count (map (value_cell sort) values) ≡ 0
no-nulls sort [] = refl
no-nulls sort (value ∷ values) =
    null_count-cons (value_cell sort value) (map (value_cell sort) values)
    ∙ ap (λ (null : Bool). (if null then 1 else 0) + null_count (map (value_cell sort) values)) (cell-there sort value)
    ∙ omega (arith, no-nulls sort values)

starts-are : (sort : Values) (from : ℕ) (values : List (List ℕ)) → offsets from (map (value_cell sort) values) ≡ starts_from from values
starts-are sort from [] = refl
starts-are sort from (value ∷ values) =
    ap (λ (rest : List ℕ). from ∷ rest)
    (ap (λ (v : List ℕ). offsets (from + length v) (map (value_cell sort) values)) (cell-value sort value)
    ∙ starts-are sort (from + length value) values)

bytes-are : (sort : Values) (values : List (List ℕ)) → flat_map value_of (map (value_cell sort) values) ≡ flat_map (λ value. value) values
bytes-are sort [] = refl
bytes-are sort (value ∷ values) =
    ap (λ (v : List ℕ). v ++ flat_map value_of (map (value_cell sort) values)) (cell-value sort value)
    ∙ ap (λ (rest : List ℕ). value ++ rest) (bytes-are sort values)

no-validity : (cells : List Cell) → null_count cells ≡ 0 → validity cells ≡ []
no-validity cells none =
    ap (λ (n : ℕ). if n == 0 then [] else bitmap (map (λ (cell : Cell). not (is_null cell)) cells)) none

-- the buffers that are made of values are those of the dictionary
pub dictionary-made : (kind : Kind) (values : List (List ℕ)) → is_encoded kind ≡ true
    → (size : ℕ) (buffers : List (List ℕ)) → size ≡ length values → buffers ≡ value_buffers_of values
    → (let made : Dictionary = record { size = size; array = record { nulls = 0; buffers = buffers } } in made)
    ≡ dictionary_with kind (map (value_cell (values_of kind)) values)
dictionary-made kind values is size buffers count are =
    let sort : Values = values_of kind in
    let cells : List Cell = map (value_cell sort) values in
    let buffers_are : buffers ≡ (array_of kind cells).buffers =
    are
    ∙ ap (λ (bytes : List ℕ). bytes ∷ flat_map (to_le_bytes w32) (starts_from 0 values) ∷ flat_map (λ value. value) values ∷ [])
    (sym (no-validity cells (no-nulls sort values)))
    ∙ ap (λ (starts : List ℕ). validity cells ∷ flat_map (to_le_bytes w32) starts ∷ flat_map (λ value. value) values ∷ []) (sym (starts-are sort 0 values))
    ∙ ap (λ (bytes : List ℕ). validity cells ∷ flat_map (to_le_bytes w32) (offsets 0 cells) ∷ bytes ∷ []) (sym (bytes-are sort values))
    ∙ sym (encoded-buffers kind cells is) in
    let size_is : size ≡ length cells = count ∙ sym (length-map values (value_cell sort)) in
    let nulls_are : 0 ≡ null_count cells = sym (no-nulls sort values) in
    ap (λ (n : ℕ). record { size = n; array = record { nulls = 0; buffers = buffers } }) size_is
    ∙ ap (λ (n : ℕ). record { size = length cells; array = record { nulls = n; buffers = buffers } }) nulls_are
    ∙ ap (λ (b : List (List ℕ)). record { size = length cells; array = record { nulls = null_count cells; buffers = b } }) buffers_are

-- three buffers are few
pub three-few : (array : Array) (values : List (List ℕ)) → array.buffers ≡ value_buffers_of values → AreFew (array ∷ [])
three-few array values is = omega (arith, ap length is, length-append array.buffers [])

insert-shorter : (order : Ordering) (new first : List ℕ) (rest longer : List (List ℕ))
    → length (flat_map (λ value. value) longer) ≤ length new + length (flat_map (λ value. value) rest)
    → length (flat_map (λ value. value) (match_ordering order (new ∷ first ∷ rest) (first ∷ rest) (first ∷ longer)))
    ≤ length new + length (flat_map (λ value. value) (first ∷ rest))
insert-shorter Less new first rest longer few = omega (arith, length-append new (flat_map (λ value. value) (first ∷ rest)))
insert-shorter Equal new first rest longer few = omega arith
insert-shorter Greater new first rest longer few =
    omega (arith, length-append first (flat_map (λ value. value) longer), length-append first (flat_map (λ value. value) rest))

insert-short : (new : List ℕ) (values : List (List ℕ))
    → length (flat_map (λ value. value) (insert_key (slice_cmp nat_cmp) values new)) ≤ length new + length (flat_map (λ value. value) values)
insert-short new [] = omega (arith, length-append new [])
insert-short new (first ∷ rest) =
    insert-shorter (slice_cmp nat_cmp new first) new first rest (insert_key (slice_cmp nat_cmp) rest new) (insert-short new rest)

cell-short : (null : Bool) (value : List ℕ) (values : List (List ℕ))
    → length (flat_map (λ value. value) (if null then values else insert_key (slice_cmp nat_cmp) values value))
    ≤ length value + length (flat_map (λ value. value) values)
cell-short true value values = omega arith
cell-short false value values = insert-short value values

-- a dictionary has no more bytes than its cells
pub dictionary-short : (cells : List Cell) → length (flat_map (λ value. value) (dictionary_of cells)) ≤ length (flat_map value_of cells)
dictionary-short [] = omega arith
dictionary-short (cell ∷ cells) =
    omega (
      arith,
      cell-short (is_null cell) (value_of cell) (dictionary_of cells),
      dictionary-short cells,
      length-append (value_of cell) (flat_map value_of cells),
    )

insert-fewer : (order : Ordering) (new first : List ℕ) (rest longer : List (List ℕ)) → length longer ≤ suc (length rest)
    → length (match_ordering order (new ∷ first ∷ rest) (first ∷ rest) (first ∷ longer)) ≤ suc (suc (length rest))
insert-fewer Less new first rest longer few = omega arith
insert-fewer Equal new first rest longer few = omega arith
insert-fewer Greater new first rest longer few = omega arith

insert-few : (new : List ℕ) (values : List (List ℕ)) → length (insert_key (slice_cmp nat_cmp) values new) ≤ suc (length values)
insert-few new [] = omega arith
insert-few new (first ∷ rest) =
    insert-fewer (slice_cmp nat_cmp new first) new first rest (insert_key (slice_cmp nat_cmp) rest new) (insert-few new rest)

cell-few : (null : Bool) (value : List ℕ) (values : List (List ℕ))
    → length (if null then values else insert_key (slice_cmp nat_cmp) values value) ≤ suc (length values)
cell-few true value values = omega arith
cell-few false value values = insert-few value values

-- nor more values
pub dictionary-few : (cells : List Cell) → length (dictionary_of cells) ≤ length cells
dictionary-few [] = omega arith
dictionary-few (cell ∷ cells) = omega (arith, cell-few (is_null cell) (value_of cell) (dictionary_of cells), dictionary-few cells)

-- ---- the indices

null-by : (null : Bool) (n : ℕ) (cell : Cell) → is_null cell ≡ null → is_null (if null then Null else Num (pos n)) ≡ null
null-by true n cell is = refl
null-by false n cell is = refl

null-kept : (values : List (List ℕ)) (cell : Cell) → is_null (index_in values cell) ≡ is_null cell
null-kept values cell = null-by (is_null cell) (place_in values (value_of cell)) cell refl

nulls-kept : (values : List (List ℕ)) (cells : List Cell) → null_count (map (index_in values) cells) ≡ null_count cells
nulls-kept values [] = refl
nulls-kept values (cell ∷ cells) =
    null_count-cons (index_in values cell) (map (index_in values) cells)
    ∙ ap (λ (null : Bool). (if null then 1 else 0) + null_count (map (index_in values) cells)) (null-kept values cell)
    ∙ ap (λ (n : ℕ). (if is_null cell then 1 else 0) + n) (nulls-kept values cells)
    ∙ sym (null_count-cons cell cells)

bits-kept : (values : List (List ℕ)) (cells : List Cell)
    → map (λ (cell : Cell). not (is_null cell)) (map (index_in values) cells) ≡ map (λ (cell : Cell). not (is_null cell)) cells
bits-kept values [] = refl
bits-kept values (cell ∷ cells) =
    ap (λ (null : Bool). not null ∷ map (λ (c : Cell). not (is_null c)) (map (index_in values) cells)) (null-kept values cell)
    ∙ ap (λ (rest : List Bool). not (is_null cell) ∷ rest) (bits-kept values cells)

validity-kept : (values : List (List ℕ)) (cells : List Cell) → validity (map (index_in values) cells) ≡ validity cells
validity-kept values cells =
    ap (λ (n : ℕ). if n == 0 then [] else bitmap (map (λ (cell : Cell). not (is_null cell)) (map (index_in values) cells))) (nulls-kept values cells)
    ∙ ap (λ (bits : List Bool). if null_count cells == 0 then [] else bitmap bits) (bits-kept values cells)

number-by : (null : Bool) (n : ℕ) → number_bytes w32 (number_of (if null then Null else Num (pos n))) ≡ to_le_bytes w32 (if null then 0 else n)
number-by true n = refl
number-by false n = refl

numbers-are : (values : List (List ℕ)) (cells : List Cell)
    → flat_map (λ (cell : Cell). number_bytes w32 (number_of cell)) (map (index_in values) cells)
    ≡ flat_map (to_le_bytes w32) (map (λ (cell : Cell). if is_null cell then 0 else place_in values (value_of cell)) cells)
numbers-are values [] = refl
numbers-are values (cell ∷ cells) =
    ap (λ (bytes : List ℕ). bytes ++ flat_map (λ (c : Cell). number_bytes w32 (number_of c)) (map (index_in values) cells))
    (number-by (is_null cell) (place_in values (value_of cell)))
    ∙ ap (λ (rest : List ℕ). to_le_bytes w32 (if is_null cell then 0 else place_in values (value_of cell)) ++ rest) (numbers-are values cells)

-- the buffers that are made of the indices are those of the indices' column
pub index-made : (cells : List Cell) (nulls : ℕ) (bytes : List ℕ) (indices : List ℕ) → null_count cells ≡ nulls → bytes ≡ validity cells
    → indices ≡ indices_of cells
    → (let made : Array = record { nulls = nulls; buffers = bytes ∷ flat_map (to_le_bytes w32) indices ∷ [] } in made) ≡ array_of I32 (index_cells cells)
index-made cells nulls bytes indices count valid are =
    let values : List (List ℕ) = dictionary_of cells in
    let nulls_are : nulls ≡ null_count (index_cells cells) = sym count ∙ sym (nulls-kept values cells) in
    let valid_is : bytes ≡ validity (index_cells cells) = valid ∙ sym (validity-kept values cells) in
    let data_is : flat_map (to_le_bytes w32) indices ≡ flat_map (λ (cell : Cell). number_bytes w32 (number_of cell)) (index_cells cells) =
    ap (flat_map (to_le_bytes w32)) are ∙ sym (numbers-are values cells) in
    ap (λ (n : ℕ). record { nulls = n; buffers = bytes ∷ flat_map (to_le_bytes w32) indices ∷ [] }) nulls_are
    ∙ ap (λ (b : List ℕ). record { nulls = null_count (index_cells cells); buffers = b ∷ flat_map (to_le_bytes w32) indices ∷ [] }) valid_is
    ∙ ap (λ (b : List ℕ). record { nulls = null_count (index_cells cells); buffers = validity (index_cells cells) ∷ b ∷ [] }) data_is

-- ---- a buffer among others

pub item-is : (buffers : List (List ℕ)) (i : ℕ) (item bytes : List ℕ) → bytes ≡ item → item ≡ get_or buffers i item → i < length buffers
    → bytes ≡ get_or buffers i []
item-is buffers i item bytes is here inside = is ∙ here ∙ get_or_default buffers i item [] inside
