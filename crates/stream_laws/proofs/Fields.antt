-- The fields of a table, once all are laid over its bytes: each stands where its place says, and so
-- does what a reference
-- leads to, behind the table.
use Rattle.std.proofs.Common.{◌≡◌, ℕ, ◌+◌, ◌-◌, ◌<◌, ◌≤◌, Bool, true, List, [], ◌∷◌, ◌++◌, length, take, drop, get_or, refl, sym, ap, ◌∙◌, subst, arith, length-append, length-drop, append-nil, ◌⊎◌, inl, inr}
use Rattle.std.specs.Prelude.{◌&&◌, ◌||◌, nat_le}
use Rattle.std.proofs.lemmas.List.{get_or-take, get_or-drop, get_or_append_left, get_or-append-add, get_or-append_right, length-take-le}
use Rattle.std.proofs.lemmas.Bool.{and_parts, or_cases, leb-true}
use Rattle.std.specs.Int.{Width, w32, byte_len, to_le_bytes}
use Rattle.arrow_spec.specs.Flatbuffers.{Laid, Object, Field, number, reference, absent, overwritten, with_fields}
use Rattle.stream_laws.proofs.Pieces.{Has, length-number}

-- ---- a piece written over bytes

module _ (body : List ℕ) (at : ℕ) (piece : List ℕ) (inside : at + length piece ≤ length body) where
  -- As many bytes stand in front of the piece as its place tells.
  before_len : length (take at body) ≡ at
  before_len = length-take-le at body (omega arith)

  -- The bytes in front and the piece end where the piece does.
  front_len : length (take at body ++ piece) ≡ at + length piece
  front_len = length-append (take at body) piece ∙ ap (λ (n : ℕ). n + length piece) before_len

  -- a piece written over bytes keeps how many there are
  pub length-overwritten : length (overwritten body at piece) ≡ length body
  length-overwritten =
      length-append (take at body ++ piece) (drop (at + length piece) body)
      ∙ omega (arith, front_len, length-drop (at + length piece) body)

  -- the piece stands there
  pub overwritten-piece : (i : ℕ) → i < length piece
      → get_or (overwritten body at piece) (at + i) 0 ≡ get_or piece i 0
  overwritten-piece i h =
      get_or_append_left (take at body ++ piece) (drop (at + length piece) body) 0 (at + i)
      (omega (arith, front_len))
      ∙ ap (λ (n : ℕ). get_or (take at body ++ piece) (n + i) 0) (sym before_len)
      ∙ get_or-append-add (take at body) piece i 0

  -- what stands before it is kept
  overwritten-before : (i : ℕ) → i < at → get_or (overwritten body at piece) i 0 ≡ get_or body i 0
  overwritten-before i h =
      get_or_append_left (take at body ++ piece) (drop (at + length piece) body) 0 i
      (omega (arith, front_len))
      ∙ get_or_append_left (take at body) piece 0 i (omega (arith, before_len))
      ∙ get_or-take at body i 0 h

  -- and what stands behind it
  overwritten-behind : (i : ℕ) → at + length piece ≤ i
      → get_or (overwritten body at piece) i 0 ≡ get_or body i 0
  overwritten-behind i h =
      get_or-append_right (take at body ++ piece) (drop (at + length piece) body)
      (at + length piece) i 0 front_len h
      ∙ get_or-drop (at + length piece) body (i - (at + length piece)) 0
      ∙ ap (λ (n : ℕ). get_or body n 0) (omega arith)

  -- so all other bytes are kept
  pub overwritten-apart : (i : ℕ) → (i < at) ⊎ (at + length piece ≤ i)
      → get_or (overwritten body at piece) i 0 ≡ get_or body i 0
  overwritten-apart i (inl h) = overwritten-before i h
  overwritten-apart i (inr h) = overwritten-behind i h

-- ---- fields that do not overlap

-- the bytes from a place on are those of none of the fields
abbrev pub apart : ℕ → ℕ → List Field → Bool
apart at size [] = true
apart at size (number place width value ∷ fields) =
    (nat_le (at + size) place || nat_le (place + byte_len width) at) && apart at size fields
apart at size (reference place object ∷ fields) =
    (nat_le (at + size) place || nat_le (place + 4) at) && apart at size fields
apart at size (absent ∷ fields) = apart at size fields

-- each field ends by the size, and does not overlap those behind it
abbrev pub are_apart : ℕ → List Field → Bool
are_apart size [] = true
are_apart size (number at width value ∷ fields) =
    nat_le (at + byte_len width) size && apart at (byte_len width) fields && are_apart size fields
are_apart size (reference at object ∷ fields) =
    nat_le (at + 4) size && apart at 4 fields && are_apart size fields
are_apart size (absent ∷ fields) = are_apart size fields

-- the byte is none of the fields'
abbrev Off : ℕ → List Field → Type 0
Off i [] = Unit {0}
Off i (number at width value ∷ fields) = ((i < at) ⊎ (at + byte_len width ≤ i)) × Off i fields
Off i (reference at object ∷ fields) = ((i < at) ⊎ (at + 4 ≤ i)) × Off i fields
Off i (absent ∷ fields) = Off i fields

-- A byte of one field is none of a field that does not overlap it.
off_one : (at size place more i : ℕ) → (nat_le (at + size) place || nat_le (place + more) at) ≡ true
    → at ≤ i → i < at + size → (i < place) ⊎ (place + more ≤ i)
off_one at size place more i test low high =
    elim (or_cases (nat_le (at + size) place) (nat_le (place + more) at) test) [
      | inl h ↦ let f : at + size ≤ place = leb-true (at + size) place h in inl (omega arith)
      | inr h ↦ let f : place + more ≤ at = leb-true (place + more) at h in inr (omega arith)
    ]

-- A byte of a stretch that no field overlaps is none of the fields'.
off-apart : (at size i : ℕ) (fields : List Field) → apart at size fields ≡ true → at ≤ i
    → i < at + size → Off i fields
off-apart at size i [] test low high = tt
off-apart at size i (number place width value ∷ fields) test low high =
    let both =
    and_parts (nat_le (at + size) place || nat_le (place + byte_len width) at)
    (apart at size fields) test in (
      off_one at size place (byte_len width) i both.0 low high,
      off-apart at size i fields both.1 low
          high,
    )
off-apart at size i (reference place object ∷ fields) test low high =
    let both =
    and_parts (nat_le (at + size) place || nat_le (place + 4) at) (apart at size fields) test in
    (off_one at size place 4 i both.0 low high, off-apart at size i fields both.1 low high)
off-apart at size i (absent ∷ fields) test low high = off-apart at size i fields test low high

-- what the test says of a first number or reference
pub record First (at width size : ℕ) (fields : List Field) : Type 0 where
  pub ends : at + width ≤ size
  pub alone : apart at width fields ≡ true
  pub rest : are_apart size fields ≡ true

-- of fields that do not overlap the first ends by the size, apart from the others
pub first-of : (at width size : ℕ) (fields : List Field)
    → (nat_le (at + width) size && apart at width fields && are_apart size fields) ≡ true
    → First at width size fields
first-of at width size fields test =
    let outer =
    and_parts (nat_le (at + width) size && apart at width fields) (are_apart size fields) test in
    let inner = and_parts (nat_le (at + width) size) (apart at width fields) outer.0 in
    record { ends = leb-true (at + width) size inner.0; alone = inner.1; rest = outer.1 }

-- A byte from the size on is none of the fields'.
off-behind : (size i : ℕ) (fields : List Field) → are_apart size fields ≡ true → size ≤ i
    → Off i fields
off-behind size i [] test past = tt
off-behind size i (number at width value ∷ fields) test past =
    let first = first-of at (byte_len width) size fields test in
    (inr (omega (arith, first.ends)), off-behind size i fields first.rest past)
off-behind size i (reference at object ∷ fields) test past =
    let first = first-of at 4 size fields test in
    (inr (omega (arith, first.ends)), off-behind size i fields first.rest past)
off-behind size i (absent ∷ fields) test past = off-behind size i fields test past

-- ---- fields laid one after another

-- the bytes after a number was laid
abbrev pub numbered : List ℕ → ℕ → Width → ℕ → List ℕ
numbered body at width value = overwritten body at (to_le_bytes width value)

-- the bytes after a reference was laid, with its target behind
abbrev referred : ℕ → List ℕ → ℕ → Object → List ℕ
referred place body at object =
    overwritten body at (to_le_bytes w32 ((object (place + length body)).place - (place + at)))
    ++ (object (place + length body)).bytes

-- A number that ends by the size lies within the bytes.
piece_inside : (body : List ℕ) (at size : ℕ) (width : Width) (value : ℕ)
    → at + byte_len width ≤ size → size ≤ length body
    → at + length (to_le_bytes width value) ≤ length body
piece_inside body at size width value ends room = omega (arith, length-number width value)

-- a number laid over bytes keeps how many there are
pub length-numbered : (body : List ℕ) (at size : ℕ) (width : Width) (value : ℕ)
    → at + byte_len width ≤ size → size ≤ length body
    → length (numbered body at width value) ≡ length body
length-numbered body at size width value ends room =
    length-overwritten body at (to_le_bytes width value)
    (piece_inside body at size width value ends room)

-- A number that is laid over bytes keeps those before and behind it.
numbered-apart : (body : List ℕ) (at size i : ℕ) (width : Width) (value : ℕ)
    → at + byte_len width ≤ size → size ≤ length body
    → (i < at) ⊎ (at + byte_len width ≤ i)
    → get_or (numbered body at width value) i 0 ≡ get_or body i 0
numbered-apart body at size i width value ends room off =
    let P : ℕ → Type 0 = λ n. (i < at) ⊎ (at + n ≤ i) in
    overwritten-apart body at (to_le_bytes width value)
    (piece_inside body at size width value ends room) i
    (subst P (sym (length-number width value)) off)

-- A number that is laid over bytes stands at its place.
numbered-piece : (body : List ℕ) (at size i : ℕ) (width : Width) (value : ℕ)
    → at + byte_len width ≤ size → size ≤ length body
    → i < length (to_le_bytes width value)
    → get_or (numbered body at width value) (at + i) 0 ≡ get_or (to_le_bytes width value) i 0
numbered-piece body at size i width value ends room h =
    overwritten-piece body at (to_le_bytes width value)
    (piece_inside body at size width value ends room) i h

-- the bytes get no fewer
pub laid-long : (place size : ℕ) (body : List ℕ) (fields : List Field)
    → are_apart size fields ≡ true → size ≤ length body
    → length body ≤ length (with_fields place body fields)
laid-long place size body [] test room = omega arith
laid-long place size body (number at width value ∷ fields) test room =
    let first = first-of at (byte_len width) size fields test in
    let same = length-numbered body at size width value first.ends room in
    let rest =
    laid-long place size (numbered body at width value) fields first.rest (omega arith) in
    omega arith
laid-long place size body (reference at object ∷ fields) test room =
    let first = first-of at 4 size fields test in
    let target : Laid = object (place + length body) in
    let same = length-numbered body at size w32 (target.place - (place + at)) first.ends room in
    let more = length-append (numbered body at w32 (target.place - (place + at))) target.bytes in
    let rest =
    laid-long place size (referred place body at object) fields first.rest (omega arith) in
    omega arith
laid-long place size body (absent ∷ fields) test room = laid-long place size body fields test room

-- a byte that is none of the fields' is kept
laid-kept : (place size i : ℕ) (body : List ℕ) (fields : List Field) → are_apart size fields ≡ true
    → size ≤ length body
    → i < length body → Off i fields → get_or (with_fields place body fields) i 0 ≡ get_or body i 0
laid-kept place size i body [] test room inside off = refl
laid-kept place size i body (number at width value ∷ fields) test room inside off =
    let first = first-of at (byte_len width) size fields test in
    let same = length-numbered body at size width value first.ends room in
    laid-kept place size i (numbered body at width value) fields first.rest (omega arith)
    (omega arith) off.1
    ∙ numbered-apart body at size i width value first.ends room off.0
laid-kept place size i body (reference at object ∷ fields) test room inside off =
    let first = first-of at 4 size fields test in
    let target : Laid = object (place + length body) in
    let over : List ℕ = numbered body at w32 (target.place - (place + at)) in
    let same : length over ≡ length body =
    length-numbered body at size w32 (target.place - (place + at)) first.ends room in
    let more = length-append over target.bytes in
    laid-kept place size i (referred place body at object) fields first.rest (omega arith)
    (omega arith) off.1
    ∙ get_or_append_left over target.bytes 0 i (omega arith)
    ∙ numbered-apart body at size i w32 (target.place - (place + at)) first.ends room off.0
laid-kept place size i body (absent ∷ fields) test room inside off =
    laid-kept place size i body fields test room inside off

-- The bytes have each field of the table or vector at a place, and what the references lead to from
-- an end on.
abbrev pub FieldsAt : List ℕ → ℕ → ℕ → List Field → Type 0
FieldsAt bytes place end [] = Unit {0}
FieldsAt bytes place end (number at width value ∷ fields) =
    Has bytes (place + at) (to_le_bytes width value) × FieldsAt bytes place end fields
FieldsAt bytes place end (reference at object ∷ fields) =
    Has bytes (place + at) (to_le_bytes w32 ((object end).place - (place + at)))
    × Has bytes end (object end).bytes
    × FieldsAt bytes place (end + length (object end).bytes) fields
FieldsAt bytes place end (absent ∷ fields) = FieldsAt bytes place end fields

-- a number that was laid, with the fields behind it
number-there : (bytes : List ℕ) (place at size value : ℕ) (width : Width) (body more : List ℕ)
    (fields : List Field)
    → First at (byte_len width) size fields → size ≤ length body
    → Has bytes place (with_fields place (numbered body at width value ++ more) fields)
    → Has bytes (place + at) (to_le_bytes width value)
number-there bytes place at size value width body more fields first room has =
    let piece : List ℕ = to_le_bytes width value in
    let over : List ℕ = numbered body at width value in
    let wide : length piece ≡ byte_len width = length-number width value in
    let same : length over ≡ length body =
    length-numbered body at size width value first.ends room in
    let joined : length (over ++ more) ≡ length over + length more = length-append over more in
    let long = laid-long place size (over ++ more) fields first.rest (omega arith) in
    record {
      within = omega (arith, has.within, first.ends);
      same = λ i h.
          ap (λ (n : ℕ). get_or bytes n 0) (omega arith)
          ∙ has.same (at + i) (omega (arith, first.ends))
          ∙ laid-kept place size (at + i) (over ++ more) fields first.rest (omega arith)
          (omega (arith, first.ends))
          (off-apart at (byte_len width) (at + i) fields first.alone (omega arith) (omega arith))
          ∙ get_or_append_left over more 0 (at + i) (omega (arith, first.ends))
          ∙ numbered-piece body at size i width value first.ends room h;
    }

-- what a reference leads to
target-there : (bytes : List ℕ) (place size : ℕ) (over more : List ℕ) (fields : List Field)
    → are_apart size fields ≡ true → size ≤ length over
    → Has bytes place (with_fields place (over ++ more) fields)
    → Has bytes (place + length over) more
target-there bytes place size over more fields test room has =
    let joined : length (over ++ more) ≡ length over + length more = length-append over more in
    let long = laid-long place size (over ++ more) fields test (omega arith) in
    record {
      within = omega (arith, has.within);
      same = λ i h.
          ap (λ (n : ℕ). get_or bytes n 0) (omega arith)
          ∙ has.same (length over + i) (omega arith)
          ∙ laid-kept place size (length over + i) (over ++ more) fields test (omega arith)
          (omega arith)
          (off-behind size (length over + i) fields test (omega arith))
          ∙ get_or-append-add over more i 0;
    }

-- each field stands where its place says, once all are laid
pub fields-there : (bytes : List ℕ) (place size : ℕ) (body : List ℕ) (fields : List Field)
    → are_apart size fields ≡ true → size ≤ length body
    → Has bytes place (with_fields place body fields)
    → FieldsAt bytes place (place + length body) fields
fields-there bytes place size body [] test room has = tt
fields-there bytes place size body (number at width value ∷ fields) test room has =
    let first = first-of at (byte_len width) size fields test in
    let over : List ℕ = numbered body at width value in
    let same : length over ≡ length body =
    length-numbered body at size width value first.ends room in
    let P : List ℕ → Type 0 = λ all. Has bytes place (with_fields place all fields) in
    let Q : ℕ → Type 0 = λ n. FieldsAt bytes place (place + n) fields in (
      number-there bytes place at size value width body [] fields first room
          (subst P (sym (append-nil over)) has),
      subst Q same (fields-there bytes place size over fields first.rest (omega arith) has),
    )
fields-there bytes place size body (reference at object ∷ fields) test room has =
    let first = first-of at 4 size fields test in
    let target : Laid = object (place + length body) in
    let value : ℕ = target.place - (place + at) in
    let over : List ℕ = numbered body at w32 value in
    let same : length over ≡ length body = length-numbered body at size w32 value first.ends room in
    let joined : length (over ++ target.bytes) ≡ length over + length target.bytes =
    length-append over target.bytes in
    let end : place + length (over ++ target.bytes) ≡ place + length body + length target.bytes =
    omega arith in
    let P : ℕ → Type 0 = λ n. Has bytes (place + n) target.bytes in
    let Q : ℕ → Type 0 = λ n. FieldsAt bytes place n fields in (
      number-there bytes place at size value w32 body target.bytes fields first room has,
      subst P same (target-there bytes place size over target.bytes fields first.rest (omega arith)
          has),
      subst Q end (fields-there bytes place size (over ++ target.bytes) fields first.rest
          (omega arith) has),
    )
fields-there bytes place size body (absent ∷ fields) test room has =
    fields-there bytes place size body fields test room has
