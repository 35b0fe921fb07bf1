-- Fields written over a whole flatbuffer, against fields written over the bytes of their table
-- alone.
use Rattle.std.proofs.Common.{◌≡◌, ℕ, ◌+◌, ◌-◌, ◌*◌, ◌<◌, ◌≤◌, List, [], ◌∷◌, ◌++◌, length, take, drop, replicate, map, refl, sym, ap, ◌∙◌, arith, append_assoc, length-append, length-drop, get_or, drop-cons, add-one}
use Rattle.std.proofs.lemmas.List.{length-replicate, drop-replicate, take-append-le, drop-append-le, length-take-le}
use Rattle.std.proofs.Math.Seq.{take-append-add, drop-append-add}
use Rattle.std.specs.Prelude.{flat_map}
use Rattle.std.specs.Int.{Width, w16, w32, to_le_bytes}
use Rattle.flat_build.specs.Layout.{empty_flatbuffer, overwritten, with_table, with_vector, with_string, table_place, length_place, string_end, vector_end}
use Rattle.arrow_spec.specs.Flatbuffers as flat
use Rattle.arrow_spec.specs.Flatbuffers.{Object, Field, number, reference, absent, with_fields, place_of, gap, aligned, table, string, references, vector_of_tables, flatbuffer}
use Rattle.arrow_meta.specs.Laying.{BeginsWith, IsLaid, laid_fields}

-- a piece written behind a front
pub overwritten-behind :
    (front body : List ℕ) (at : ℕ) (piece : List ℕ)
    → overwritten (front ++ body) (length front + at) piece ≡ front ++ flat.overwritten body at piece
overwritten-behind front body at piece =
    let reach : (length front + at) + length piece ≡ length front + (at + length piece) = omega arith in
    rw (reach, take-append-add front body at, drop-append-add front body (at + length piece))
    (simp append_assoc)

-- a piece written over what stands before more
pub overwritten-before :
    (body more : List ℕ) (at : ℕ) (piece : List ℕ) → at + length piece ≤ length body
    → flat.overwritten (body ++ more) at piece ≡ flat.overwritten body at piece ++ more
overwritten-before body more at piece h =
    let low : at ≤ length body = omega arith in
    rw (take-append-le at body more low, drop-append-le (at + length piece) body more h)
    (simp append_assoc)

-- writing over bytes keeps how many there are
pub length-overwritten :
    (body : List ℕ) (at : ℕ) (piece : List ℕ) → at + length piece ≤ length body
    → length (flat.overwritten body at piece) ≡ length body
length-overwritten body at piece h =
    let low : at ≤ length body = omega arith in
    let front : length (take at body) ≡ at = length-take-le at body low in
    rw (length-append (take at body ++ piece) (drop (at + length piece) body), length-append (take at body) piece, front, length-drop (at + length piece) body)
    (omega arith)

-- where a field ends in its table
abbrev pub end_of : Field → ℕ
end_of (number at width value) = at + length (to_le_bytes width value)
end_of (reference at object) = at + 4
end_of absent = 0

-- each field ends by this size
abbrev pub EndBy : ℕ → List Field → Type 0
EndBy size [] = Unit {0}
EndBy size (field ∷ fields) = (end_of field ≤ size) × EndBy size fields

-- fields over a table behind a front are the front, and the table with its fields
pub fields-laid :
    (front body : List ℕ) (size : ℕ) (fields : List Field) → size ≤ length body → EndBy size fields
    → laid_fields (length front) (front ++ body) fields ≡ front ++ with_fields (length front) body fields
fields-laid front body size [] room ends = refl
fields-laid front body size (number at width value ∷ fields) room ends =
    let piece : List ℕ = to_le_bytes width value in
    let kept : length (flat.overwritten body at piece) ≡ length body = length-overwritten body at piece (omega (arith, ends.0)) in
    ap (λ (bytes : List ℕ). laid_fields (length front) bytes fields) (overwritten-behind front body at piece)
    ∙ fields-laid front (flat.overwritten body at piece) size fields (omega arith) ends.1
fields-laid front body size (reference at object ∷ fields) room ends =
    let place : ℕ = length front in
    let end : ℕ = place + length body in
    let piece : List ℕ = to_le_bytes w32 ((object end).place - (place + at)) in
    let more : List ℕ = (object end).bytes in
    let over : List ℕ = flat.overwritten body at piece in
    let inside : at + length piece ≤ length body = omega (arith, ends.0) in
    let kept : length over ≡ length body = length-overwritten body at piece inside in
    let grown : length (over ++ more) ≡ length over + length more = length-append over more in
    ap
    (λ (n : ℕ). laid_fields place (overwritten ((front ++ body) ++ (object n).bytes) (place + at) (to_le_bytes w32 ((object n).place - (place + at)))) fields)
    (length-append front body)
    ∙ ap (λ (bytes : List ℕ). laid_fields place (overwritten bytes (place + at) piece) fields) (append_assoc front body more)
    ∙ ap (λ (bytes : List ℕ). laid_fields place bytes fields) (overwritten-behind front (body ++ more) at piece)
    ∙ ap (λ (bytes : List ℕ). laid_fields place (front ++ bytes) fields) (overwritten-before body more at piece inside)
    ∙ fields-laid front (over ++ more) size fields (omega arith) ends.1
fields-laid front body size (absent ∷ fields) room ends = fields-laid front body size fields room ends.1

-- the same where the table or vector begins with a word of four bytes, and the rest of it is zero
pub behind-word :
    (front word : List ℕ) (place size : ℕ) (fields : List Field)
    → length word ≡ 4 → 4 ≤ size → length front ≡ place → EndBy size fields
    → laid_fields place (front ++ (word ++ replicate (size - 4) 0)) fields
    ≡ front ++ with_fields place (flat.overwritten (replicate size 0) 0 word) fields
behind-word front word place size fields four least here ends =
    let body : List ℕ = flat.overwritten (replicate size 0) 0 word in
    let zeros_size : List ℕ = replicate size 0 in
    let inside : 0 + length word ≤ length zeros_size = rw (length-replicate {A = ℕ} size 0) (omega arith) in
    let long : length body ≡ size = length-overwritten zeros_size 0 word inside ∙ length-replicate {A = ℕ} size 0 in
    let reach : 0 + length word ≡ 4 = omega arith in
    let zeros : body ≡ word ++ replicate (size - 4) 0 =
    ap (λ (n : ℕ). word ++ drop n (replicate size 0)) reach ∙ ap (λ (bytes : List ℕ). word ++ bytes) (drop-replicate 4 size 0) in
    ap (λ (bytes : List ℕ). laid_fields place (front ++ bytes) fields) (sym zeros)
    ∙ ap (λ (n : ℕ). laid_fields n (front ++ body) fields) (sym here)
    ∙ fields-laid front body size fields (omega arith) ends
    ∙ ap (λ (n : ℕ). front ++ with_fields n body fields) here

-- words of two bytes each
pub length-words : (words : List ℕ) → length (flat_map (to_le_bytes w16) words) ≡ 2 * length words
length-words [] = refl
length-words (word ∷ words) = let rest = length-words words in omega arith

-- a table that was laid, and then its fields
pub table-laid :
    (old : List ℕ) (size : ℕ) (fields : List Field) → 4 ≤ size → EndBy size fields
    → let words = (4 + 2 * length fields) ∷ size ∷ map place_of fields in
    laid_fields (table_place old words) (with_table old words) fields ≡ old ++ (table size fields (length old)).bytes
table-laid old size fields least ends =
    let words : List ℕ = (4 + 2 * length fields) ∷ size ∷ map place_of fields in
    let vtable : List ℕ = flat_map (to_le_bytes w16) words in
    let start : ℕ = aligned (length old) in
    let end : ℕ = start + length vtable in
    let place : ℕ = aligned end in
    let head : List ℕ = old ++ gap (length old) start ++ vtable in
    let front : List ℕ = head ++ gap end place in
    let word : List ℕ = to_le_bytes w32 (place - start) in
    let ended : start + 2 * length words ≡ end = omega (arith, length-words words) in
    let head_long : length head ≡ end =
    rw (length-append (old ++ gap (length old) start) vtable, length-append old (gap (length old) start), length-replicate {A = ℕ} (start - length old) 0) (omega arith) in
    let front_long : length front ≡ place =
    rw (length-append head (gap end place), length-replicate {A = ℕ} (place - end) 0) (omega arith) in
    let laid : with_table old words ≡ front ++ (word ++ replicate (size - 4) 0) =
    ap (λ (n : ℕ). head ++ replicate (aligned n - length head) 0 ++ to_le_bytes w32 (aligned n - start) ++ replicate (size - 4) 0) ended
    ∙ ap (λ (n : ℕ). head ++ replicate (place - n) 0 ++ word ++ replicate (size - 4) 0) head_long
    ∙ append_assoc front word (replicate (size - 4) 0) in
    ap (λ (n : ℕ). laid_fields (aligned n) (with_table old words) fields) ended
    ∙ ap (λ (bytes : List ℕ). laid_fields place bytes fields) laid
    ∙ behind-word front word place size fields refl least front_long ends
    ∙ simp append_assoc

-- references to so many objects end where the vector does
pub references-end : (at size : ℕ) (objects : List Object) → at + 4 * length objects ≤ size → EndBy size (references at objects)
references-end at size [] room = tt
references-end at size (object ∷ objects) room = (omega arith, references-end (at + 4) size objects (omega arith))

-- a vector of tables that was laid, and then its references
pub tables-laid :
    (old : List ℕ) (objects : List Object)
    → laid_fields (length_place old) (with_vector old (length objects) 4) (references 4 objects)
    ≡ old ++ (vector_of_tables objects (length old)).bytes
tables-laid old objects =
    let count : ℕ = length objects in
    let size : ℕ = 4 + 4 * count in
    let place : ℕ = flat.length_place (length old) in
    let front : List ℕ = old ++ gap (length old) place in
    let word : List ℕ = to_le_bytes w32 count in
    let front_long : length front ≡ place =
    rw (length-append old (gap (length old) place), length-replicate {A = ℕ} (place - length old) 0) (omega arith) in
    let rest : count * 4 ≡ size - 4 = omega arith in
    let laid : with_vector old count 4 ≡ front ++ (word ++ replicate (size - 4) 0) =
    ap (λ (n : ℕ). front ++ word ++ replicate n 0) rest ∙ append_assoc front word (replicate (size - 4) 0) in
    ap (λ (bytes : List ℕ). laid_fields place bytes (references 4 objects)) laid
    ∙ behind-word front word place size (references 4 objects) refl (omega arith) front_long (references-end 4 size objects (omega arith))
    ∙ append_assoc old (gap (length old) place) _

-- The fields of the table or vector at `place` were laid from these bytes to the last.
pub record LaidTo (place : ℕ) (bytes : List ℕ) (fields : List Field) (last : List ℕ) : Type 0 where
  pub is : last ≡ laid_fields place bytes fields

-- where no field is left the bytes are the last
pub no_more : (place : ℕ) (last : List ℕ) → LaidTo place last [] last
no_more place last = record { is = refl }

-- whatever fields are left
pub rest-laid : (place : ℕ) (bytes : List ℕ) (fields : List Field)
    → LaidTo place bytes fields (laid_fields place bytes fields)
rest-laid place bytes fields = record { is = refl }

-- a number, and then the other fields
pub after_number :
    {place at value : ℕ} {width : Width} {bytes : List ℕ} {fields : List Field} {last : List ℕ} (next : List ℕ)
    → next ≡ overwritten bytes (place + at) (to_le_bytes width value)
    → LaidTo place next fields last → LaidTo place bytes (number at width value ∷ fields) last
after_number {place = place} {fields = fields} next written rest = record {
  is = rest.is ∙ ap (λ (bytes : List ℕ). laid_fields place bytes fields) written;
}

-- a reference with its object, and then the other fields
pub after_reference :
    {place at most : ℕ} {object : Object} {bytes : List ℕ} {fields : List Field} {last : List ℕ} (grown next : List ℕ) (target : ℕ)
    → IsLaid object most bytes grown target
    → next ≡ overwritten grown (place + at) (to_le_bytes w32 (target - (place + at)))
    → LaidTo place next fields last → LaidTo place bytes (reference at object ∷ fields) last
after_reference {place = place} {at = at} {object = object} {bytes = bytes} {fields = fields} grown next target laid written rest = record {
  is = rest.is
      ∙ ap (λ (bytes : List ℕ). laid_fields place bytes fields) written
      ∙ ap (λ (bytes : List ℕ). laid_fields place (overwritten bytes (place + at) (to_le_bytes w32 (target - (place + at)))) fields) laid.bytes
      ∙ ap
      (λ (n : ℕ). laid_fields place (overwritten (bytes ++ (object (length bytes)).bytes) (place + at) (to_le_bytes w32 (n - (place + at)))) fields)
      laid.at;
}

-- an absent field leaves the bytes
pub after_absent :
    {place : ℕ} {bytes : List ℕ} {fields : List Field} {last : List ℕ}
    → LaidTo place bytes fields last → LaidTo place bytes (absent ∷ fields) last
after_absent rest = record { is = rest.is }

-- the first fields, and then the others
pub after_front :
    {place most : ℕ} {front fields : List Field} {bytes last : List ℕ} (next : List ℕ)
    → BeginsWith place front most bytes next
    → LaidTo place next fields last → LaidTo place bytes (front ++ fields) last
after_front {fields = fields} next begun rest = record { is = rest.is ∙ sym (begun.laid fields) }

-- A table whose fields were laid: it stands where its vtable ends, and its bytes are behind the old
-- ones.
pub table-is :
    (old : List ℕ) (size most : ℕ) (fields : List Field) (place : ℕ) (first last : List ℕ)
    → 4 ≤ size → EndBy size fields
    → place ≡ table_place old ((4 + 2 * length fields) ∷ size ∷ map place_of fields)
    → first ≡ with_table old ((4 + 2 * length fields) ∷ size ∷ map place_of fields)
    → LaidTo place first fields last
    → place < length last → length last ≤ length old + most
    → IsLaid (table size fields) most old last place
table-is old size most fields place first last least ends here start laid inside few =
    let words : List ℕ = (4 + 2 * length fields) ∷ size ∷ map place_of fields in
    let vtable : List ℕ = flat_map (to_le_bytes w16) words in
    let long : aligned (length old) + 2 * length words ≡ aligned (length old) + length vtable = omega (arith, length-words words) in
    record {
      bytes = laid.is
          ∙ ap (λ (bytes : List ℕ). laid_fields place bytes fields) start
          ∙ ap (λ (n : ℕ). laid_fields n (with_table old words) fields) here
          ∙ table-laid old size fields least ends;
      at = here ∙ ap aligned long;
      behind = omega arith;
      within = inside;
      short = few;
    }

-- A string that was laid.
pub string-is :
    (old text new : List ℕ) (place : ℕ)
    → place ≡ length_place old → new ≡ with_string old text → length new ≡ string_end old text
    → IsLaid (string text) (12 + length text) old new place
string-is old text new place here is long = record {
  bytes = is ∙ simp append_assoc;
  at = here;
  behind = omega arith;
  within = omega arith;
  short = omega arith;
}

-- A vector of no tables that was laid.
pub no-tables :
    (old new : List ℕ) (place : ℕ)
    → place ≡ length_place old → new ≡ with_vector old 0 4 → length new ≡ vector_end old 0 4
    → IsLaid (vector_of_tables []) 11 old new place
no-tables old new place here is long = record {
  bytes = is ∙ tables-laid old [];
  at = here;
  behind = omega arith;
  within = omega arith;
  short = omega arith;
}

-- A vector of tables whose references were laid.
pub tables-are :
    (old : List ℕ) (objects : List Object) (most place : ℕ) (first last : List ℕ)
    → place ≡ length_place old → first ≡ with_vector old (length objects) 4
    → LaidTo place first (references 4 objects) last
    → place < length last → length last ≤ length old + most
    → IsLaid (vector_of_tables objects) most old last place
tables-are old objects most place first last here start laid inside few = record {
  bytes = laid.is
      ∙ ap (λ (bytes : List ℕ). laid_fields place bytes (references 4 objects)) start
      ∙ ap (λ (n : ℕ). laid_fields n (with_vector old (length objects) 4) (references 4 objects)) here
      ∙ tables-laid old objects;
  at = here;
  behind = omega arith;
  within = inside;
  short = few;
}

-- One more object of those that are made from the elements of a list.
pub one-more :
    {X : Type 0} (f : X → Object) (xs : List X) (item : X) (place i most at target : ℕ) (bytes grown next : List ℕ)
    → i < length xs → item ≡ get_or xs i item → at ≡ place + (4 + 4 * i)
    → IsLaid (f item) most bytes grown target
    → next ≡ overwritten grown at (to_le_bytes w32 (target - at))
    → laid_fields place next (references (4 + 4 * (i + 1)) (map f (drop (i + 1) xs)))
    ≡ laid_fields place bytes (references (4 + 4 * i) (map f (drop i xs)))
one-more {X = X} f xs item place i most at target bytes grown next inside is here laid written =
    let field : ℕ = 4 + 4 * i in
    let after : List Object = map f (drop (i + 1) xs) in
    let split : drop i xs ≡ item ∷ drop (i + 1) xs =
    drop-cons xs i item inside
    ∙ ap (λ (n : ℕ). get_or xs i item ∷ drop n xs) (sym (add-one i))
    ∙ ap (λ (x : X). x ∷ drop (i + 1) xs) (sym is) in
    let put : next ≡ overwritten grown (place + field) (to_le_bytes w32 (target - (place + field))) =
    written ∙ ap (λ (n : ℕ). overwritten grown n (to_le_bytes w32 (target - n))) here in
    let step : LaidTo place bytes (reference field (f item) ∷ references (field + 4) after) (laid_fields place next (references (field + 4) after)) =
    after_reference grown next target laid put (record { is = refl }) in
    let further : 4 + 4 * (i + 1) ≡ field + 4 = omega arith in
    ap (λ (n : ℕ). laid_fields place next (references n after)) further
    ∙ step.is
    ∙ ap (λ (ys : List X). laid_fields place bytes (references field (map f ys))) (sym split)

-- A flatbuffer whose root was laid first, once the root's place is written.
pub root-written :
    (object : Object) (most root : ℕ) (old new bytes : List ℕ)
    → old ≡ empty_flatbuffer → IsLaid object most old new root
    → bytes ≡ overwritten new 0 (to_le_bytes w32 root)
    → bytes ≡ flatbuffer object
root-written object most root old new bytes start laid written =
    let grown : new ≡ empty_flatbuffer ++ (object 8).bytes =
    laid.bytes ∙ ap (λ (before : List ℕ). before ++ (object (length before)).bytes) start in
    let place : root ≡ (object 8).place = laid.at ∙ ap (λ (before : List ℕ). (object (length before)).place) start in
    written
    ∙ ap (λ (all : List ℕ). overwritten all 0 (to_le_bytes w32 root)) grown
    ∙ ap (λ (n : ℕ). overwritten (empty_flatbuffer ++ (object 8).bytes) 0 (to_le_bytes w32 n)) place

-- Such a flatbuffer is as long as what was laid.
pub root-long :
    (object : Object) (most root : ℕ) (old new bytes : List ℕ)
    → old ≡ empty_flatbuffer → IsLaid object most old new root
    → bytes ≡ overwritten new 0 (to_le_bytes w32 root)
    → length bytes ≤ 8 + most
root-long object most root old new bytes start laid written =
    let before : length old ≡ 8 = ap length start in
    let inside : 0 + length (to_le_bytes w32 root) ≤ length new = omega (arith, laid.behind, laid.within) in
    omega (arith, ap length written, length-overwritten new 0 (to_le_bytes w32 root) inside, laid.short)
