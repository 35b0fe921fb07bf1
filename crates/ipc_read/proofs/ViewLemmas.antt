-- What a column's buffers are, by the sort of its values.
use Rattle.std.proofs.Common.{◌≡◌, ℕ, ◌+◌, ◌<◌, ◌≤◌, ◌&&◌, ◌||◌, ◌==◌, ◌⊎◌, inl, inr, Bool, true, false, List, [], ◌∷◌, length, map, take, get_or, refl, sym, ap, ◌∙◌, arith}
use Rattle.std.specs.Prelude.{nat_le, slice_index, unsigned_abs, ℤ, pos, Result, Ok, Err}
use Rattle.std.proofs.Math.Nat.{mul-le-mul_right}
use Rattle.std.proofs.lemmas.Bool.{leb-true, le-leb, eqb-true, and_from}
use Rattle.std.specs.Int.{byte_len}
use Rattle.std.specs.List.{list_all}
use Rattle.std.specs.Ordering.{int_eq}
use Rattle.cell_model.specs.declared.cell.Cell.{Cell}
use Rattle.cell_model.specs.declared.values.Values.{Values}
use Rattle.cell_model.specs.declared.values.Values.TheVariants.{Signed, Unsigned, Truths, Texts, Blobs, Strips}
use Rattle.cell_model.specs.Widths.{number_width, offset_width}
use Rattle.stream_spec.specs.Columns.{are_buffers, bytes_of, data_count, cells_of, column_of, data_needs, has_offsets, is_buffer, is_text, lies_in, null_count_of}
use Rattle.stream_spec.specs.declared.message.BufferPlace.{BufferPlace}
use Rattle.stream_spec.specs.Checks.{◌>>=◌, rule}
use Rattle.stream_spec.specs.declared.fault.Cause.{Cause}
use Rattle.stream_spec.specs.declared.fault.Cause.TheVariants as cause
use Rattle.ipc_read.specs.declared.views.View.{View}
use Rattle.ipc_read.specs.Layouts.{values_in}
use Rattle.ipc_read.specs.Views.{IsView, cells_in, data_of, need_of}

-- needs grow with the rows
grows : (sort : Values) (i rows : ℕ) → i < rows → need_of sort (i + 1) ≤ need_of sort rows
grows (Signed width) i rows lt = mul-le-mul_right (byte_len (number_width width)) (omega arith)
grows (Unsigned width) i rows lt = mul-le-mul_right (byte_len (number_width width)) (omega arith)
grows Truths i rows lt = omega arith
grows (Texts width) i rows lt = mul-le-mul_right (byte_len (offset_width width)) (omega arith)
grows (Blobs width) i rows lt = mul-le-mul_right (byte_len (offset_width width)) (omega arith)
grows (Strips bytes) i rows lt = mul-le-mul_right bytes (omega arith)

-- Data that have room for some rows are as long as these need.
room_by : (none : Bool) (rows need length : ℕ) → (rows == 0) ≡ none → 0 < rows → (none || nat_le need length) ≡ true → need ≤ length
room_by true rows need length none some room = let zero : rows ≡ 0 = eqb-true rows 0 none in omega arith
room_by false rows need length none some room = leb-true need length room

-- data that are long enough for all rows are so for each
pub room_at : (k : Values) (i rows length : ℕ) → i < rows → (rows == 0 || nat_le (need_of k rows) length) ≡ true → need_of k (i + 1) ≤ length
room_at k i rows length lt room =
    let all : need_of k rows ≤ length = room_by (rows == 0) rows (need_of k rows) length refl (omega arith) room in
    let more : need_of k (i + 1) ≤ need_of k rows = grows k i rows lt in
    omega (arith, all, more)

-- Where the first and the last hold, the first and one of the other two do.
free : (a b c : Bool) → a ≡ true → c ≡ true → (a && (b || c)) ≡ true
free a true c p q = and_from a true p refl
free a false c p q = and_from a c p q

-- a list of one, and of two
one_item : {A : Type 0} (items : List A) (d : A) → length items ≡ 1 → items ≡ get_or items 0 d ∷ []
one_item [] d is = absurd cc
one_item (x ∷ []) d is = refl
one_item (x ∷ y ∷ items) d is = absurd (omega (arith, is))

-- A list of length two is its first and its second element.
two_items : {A : Type 0} (items : List A) (d e : A) → length items ≡ 2 → items ≡ get_or items 0 d ∷ get_or items 1 e ∷ []
two_items [] d e is = absurd cc
two_items (x ∷ []) d e is = absurd (omega (arith, is))
two_items (x ∷ y ∷ []) d e is = refl
two_items (x ∷ y ∷ z ∷ items) d e is = absurd (omega (arith, is))

-- A column's buffers: one or two, and how long they have to be.
pub record Shape (values : Values) (rows count : ℕ) (needs : List ℕ) : Type 0 where
  pub count_is : data_count values ≡ count
  pub needs_are : data_needs values rows ≡ needs

-- A column has one buffer of data, or two, the second of any length.
shape_of : (values : Values) (rows : ℕ) → Shape values rows 1 (slice_index (data_needs values rows) 0 ∷ []) ⊎ Shape values rows 2 (slice_index (data_needs values rows) 0 ∷ 0 ∷ [])
shape_of (Signed width) rows = inl (record { count_is = refl; needs_are = refl })
shape_of (Unsigned width) rows = inl (record { count_is = refl; needs_are = refl })
shape_of Truths rows = inl (record { count_is = refl; needs_are = refl })
shape_of (Texts width) rows = inr (record { count_is = refl; needs_are = refl })
shape_of (Blobs width) rows = inr (record { count_is = refl; needs_are = refl })
shape_of (Strips bytes) rows = inl (record { count_is = refl; needs_are = refl })

-- How long a buffer is by its place, without a sign.
abbrev count_in : BufferPlace → ℕ
count_in buffer = unsigned_abs buffer.length

-- all are long enough where there is a second
pub with_values : (body : List ℕ) (rows : ℕ) (values : Values) (buffers : List BufferPlace) (d e : BufferPlace)
    → length buffers ≡ data_count values → 1 < length buffers
    → is_buffer body rows (slice_index (data_needs values rows) 0) (get_or buffers 0 d) ≡ true → lies_in body (get_or buffers 1 e) ≡ true
    → are_buffers body rows (data_needs values rows) buffers ≡ true
with_values body rows values buffers d e count two first second = elim (shape_of values rows) [
  | inl one ↦ absurd (omega (arith, one.count_is, count, two))
  | inr is ↦
      ap (λ (needs : List ℕ). are_buffers body rows needs buffers) is.needs_are
      ∙ (ap (are_buffers body rows (slice_index (data_needs values rows) 0 ∷ 0 ∷ [])) (two_items buffers d e (count ∙ is.count_is))
      ∙ and_from _ _ first (and_from _ _ (free (lies_in body (get_or buffers 1 e)) (rows == 0) (nat_le 0 (count_in (get_or buffers 1 e))) second (le-leb 0 _ (omega arith))) refl))
]

-- and where there is none
pub without_values : (body : List ℕ) (rows : ℕ) (values : Values) (buffers : List BufferPlace) (d : BufferPlace)
    → length buffers ≡ data_count values → length buffers ≤ 1
    → is_buffer body rows (slice_index (data_needs values rows) 0) (get_or buffers 0 d) ≡ true
    → are_buffers body rows (data_needs values rows) buffers ≡ true
without_values body rows values buffers d count few first = elim (shape_of values rows) [
  | inl is ↦
      ap (λ (needs : List ℕ). are_buffers body rows needs buffers) is.needs_are
      ∙ (ap (are_buffers body rows (slice_index (data_needs values rows) 0 ∷ [])) (one_item buffers d (count ∙ is.count_is))
      ∙ and_from _ _ first refl)
  | inr two ↦ absurd (omega (arith, two.count_is, count, few))
]

-- the bytes of all, where there is a second
pub bytes_with : (body : List ℕ) (values : Values) (buffers : List BufferPlace) (d e : BufferPlace) (first second : List ℕ)
    → length buffers ≡ data_count values → 1 < length buffers
    → first ≡ bytes_of body (get_or buffers 0 d) → second ≡ bytes_of body (get_or buffers 1 e)
    → take (data_count values) (first ∷ second ∷ []) ≡ map (bytes_of body) buffers
bytes_with body values buffers d e first second count two a b = elim (shape_of values 0) [
  | inl one ↦ absurd (omega (arith, one.count_is, count, two))
  | inr is ↦
      ap (λ (n : ℕ). take n (first ∷ second ∷ [])) is.count_is
      ∙ (ap (λ (x : List ℕ). x ∷ second ∷ []) a ∙ ap (λ (y : List ℕ). bytes_of body (get_or buffers 0 d) ∷ y ∷ []) b)
      ∙ sym (ap (map (bytes_of body)) (two_items buffers d e (count ∙ is.count_is)))
]

-- and where there is none
pub bytes_without : (body : List ℕ) (values : Values) (buffers : List BufferPlace) (d : BufferPlace) (first second : List ℕ)
    → length buffers ≡ data_count values → length buffers ≤ 1
    → first ≡ bytes_of body (get_or buffers 0 d)
    → take (data_count values) (first ∷ second ∷ []) ≡ map (bytes_of body) buffers
bytes_without body values buffers d first second count few a = elim (shape_of values 0) [
  | inl is ↦
      ap (λ (n : ℕ). take n (first ∷ second ∷ [])) is.count_is
      ∙ ap (λ (x : List ℕ). x ∷ []) a
      ∙ sym (ap (map (bytes_of body)) (one_item buffers d (count ∙ is.count_is)))
  | inr two ↦ absurd (omega (arith, two.count_is, count, few))
]

-- ---- the checks of a column

-- the checks behind that of the buffers
abbrev checked : Bool → Bool → Bool → List Cell → Result (List Cell) Cause
checked counted rising encoded cells = do
  a ← rule cause.NullCount counted
  b ← rule cause.Offsets rising
  c ← rule cause.Utf8 encoded
  Ok cells

-- a wrong count of nulls is the fault
pub count_fails : (counted rising encoded : Bool) (cells : List Cell) → counted ≡ false → checked counted rising encoded cells ≡ Err cause.NullCount
count_fails counted rising encoded cells is = ap (λ (b : Bool). checked b rising encoded cells) is

-- offsets that are not lawful are, where the count is right
pub offsets_fail : (counted rising encoded : Bool) (cells : List Cell) → counted ≡ true → rising ≡ false → checked counted rising encoded cells ≡ Err cause.Offsets
offsets_fail counted rising encoded cells a is = ap (λ (b : Bool). checked b rising encoded cells) a ∙ ap (λ (b : Bool). checked true b encoded cells) is

-- a text that is no UTF-8 is, where the offsets are lawful
pub texts_fail : (counted rising encoded : Bool) (cells : List Cell) → counted ≡ true → rising ≡ true → encoded ≡ false → checked counted rising encoded cells ≡ Err cause.Utf8
texts_fail counted rising encoded cells a b is = ap (λ (x : Bool). checked x rising encoded cells) a ∙ (ap (λ (x : Bool). checked true x encoded cells) b ∙ ap (λ (x : Bool). checked true true x cells) is)

-- where all hold, the cells are read
pub all_hold : (counted rising encoded : Bool) (cells : List Cell) → counted ≡ true → rising ≡ true → encoded ≡ true → checked counted rising encoded cells ≡ Ok cells
all_hold counted rising encoded cells a b is = ap (λ (x : Bool). checked x rising encoded cells) a ∙ (ap (λ (x : Bool). checked true x encoded cells) b ∙ ap (λ (x : Bool). checked true true x cells) is)

-- the checks of a column whose buffers are lent
pub as_checked : (body : List ℕ) (rows : ℕ) (sort : Values) (nulls : ℤ) (validity : BufferPlace) (buffers : List BufferPlace) (view : View)
    → IsView body rows sort validity buffers view
    → column_of body rows sort nulls validity buffers
    ≡ checked (int_eq nulls (pos (null_count_of view.validity.now rows))) (has_offsets (values_in view.layout) (data_of view) rows) (list_all is_text (cells_in rows view)) (cells_in rows view)
as_checked body rows sort nulls validity buffers view is =
    let by : Values → List ℕ → List (List ℕ) → Result (List Cell) Cause =
    λ (j : Values) (bits : List ℕ) (all : List (List ℕ)). checked (int_eq nulls (pos (null_count_of bits rows))) (has_offsets j all rows) (list_all is_text (cells_of j bits all rows)) (cells_of j bits all rows) in
    ap (λ (b : Bool). rule cause.Buffer b >>= λ _. by sort (bytes_of body validity) (map (bytes_of body) buffers)) is.inside
    ∙ (ap (λ (j : Values). by j (bytes_of body validity) (map (bytes_of body) buffers)) (sym is.of_sort)
    ∙ (ap (λ (bits : List ℕ). by (values_in view.layout) bits (map (bytes_of body) buffers)) (sym is.of_validity)
    ∙ ap (by (values_in view.layout) view.validity.now) (sym is.of_data)))
