-- Tables, vectors and strings that are laid in bytes read as what they were laid for.
use Rattle.std.proofs.Common.{◌≡◌, ℕ, zero, suc, ◌+◌, ◌-◌, ◌*◌, ◌^◌, ◌<◌, ◌≤◌, Bool, true, false, cond, List, [], ◌∷◌, ◌++◌, length, map, take, drop, get_or, replicate, refl, sym, ap, ◌∙◌, subst, arith, length-append, lit<, Some, None, Result, Ok, inl, inr}
use Rattle.std.specs.Prelude.{◌&&◌, ◌||◌, nat_le, nat_lt, flat_map, if◌then◌else◌}
use Rattle.std.proofs.lemmas.List.{length-replicate, length-map, get_or_past}
use Rattle.std.proofs.lemmas.Bool.{le-leb, le-ltb, lt-leb, cases_lt, and_parts, and_from, or_left, ltb-true}
use Rattle.std.specs.Int.{Width, w16, w32, byte_len, to_le_bytes}
use Rattle.arrow_spec.specs.Flatbuffers.{Object, Field, number, place_of, aligned, length_place, gap, with_fields, vtable_of, table, vector, string, vector_of_tables, references}
use Rattle.flat_read.specs.declared.FlatFault.{FlatFault}
use Rattle.flat_read.specs.Reading.{fault_at, within, number_from, number_at, target_at, vector_at, text_at, vtable_place, entry_from, entry_place, field_by, field_at}
use Rattle.stream_laws.proofs.Pieces.{Has, has-left, has-right, has-number, has-taken, length-number}
use Rattle.stream_laws.proofs.Fields.{FieldsAt, apart, are_apart, fields-there, laid-long}

-- the bytes reach as far as asked
pub within-held : {A : Type 0} (bytes : List ℕ) (place need : ℕ) (answer : Result A FlatFault)
    → place + need ≤ length bytes → within bytes place need answer ≡ answer
within-held {A} bytes place need answer h =
    ap (λ (b : Bool). cond b answer (fault_at {A = A} place need))
    (le-leb (place + need) (length bytes) h)

-- ---- numbers

-- a number that stands at a place is read
pub number-read : (bytes : List ℕ) (place : ℕ) (width : Width) (value : ℕ)
    → value < 256 ^ byte_len width
    → Has bytes place (to_le_bytes width value) → number_at bytes place (byte_len width) ≡ Ok value
number-read bytes place width value small has =
    let there : place + byte_len width ≤ length bytes =
    omega (arith, has.within, length-number width value) in
    within-held bytes place (byte_len width) (Ok (number_from bytes place (byte_len width))) there
    ∙ ap (λ (n : ℕ). Ok n) (has-number bytes place width value small has)

-- a reference leads to its target
pub target-read : (bytes : List ℕ) (place target : ℕ) → place ≤ target → target < 2 ^ 32
    → Has bytes place (to_le_bytes w32 (target - place)) → target_at bytes place ≡ Ok target
target-read bytes place target ahead small has =
    let there : place + 4 ≤ length bytes = omega (arith, has.within) in
    let far : place + (target - place) ≡ target = omega arith in
    within-held bytes place 4 (Ok (place + number_from bytes place 4)) there
    ∙ ap (λ (n : ℕ). Ok (place + n)) (has-number bytes place w32 (target - place) (omega arith) has)
    ∙ ap (λ (n : ℕ). Ok n) far

-- ---- vtables

-- a word of a list of words
word-read : (bytes : List ℕ) (place : ℕ) (words : List ℕ) (i : ℕ) → i < length words
    → get_or words i 0 < 2 ^ 16
    → Has bytes place (flat_map (to_le_bytes w16) words)
    → number_from bytes (place + 2 * i) 2 ≡ get_or words i 0
word-read bytes place [] i inside small has = absurd (omega arith)
word-read bytes place (word ∷ words) zero inside small has =
    let here : place + 2 * zero ≡ place = omega arith in
    ap (λ (n : ℕ). number_from bytes n 2) here
    ∙ has-number bytes place w16 word small (has-left bytes place (to_le_bytes w16 word)
    (flat_map (to_le_bytes w16) words) has)
word-read bytes place (word ∷ words) (suc i) inside small has =
    let here : place + 2 * suc i ≡ place + 2 + 2 * i = omega arith in
    ap (λ (n : ℕ). number_from bytes n 2) here
    ∙ word-read bytes (place + 2) words i (omega arith) small
    (has-right bytes place (to_le_bytes w16 word) (flat_map (to_le_bytes w16) words) has)

-- Each word of a list takes two bytes.
length-words : (words : List ℕ) → length (flat_map (to_le_bytes w16) words) ≡ 2 * length words
length-words [] = refl
length-words (word ∷ words) = omega (arith, length-words words)

-- each place fits a word
abbrev pub are_words : List ℕ → Bool
are_words [] = true
are_words (word ∷ words) = nat_lt word (2 ^ 16) && are_words words

-- Where all words pass the test, each fits sixteen bits.
word-fits : (words : List ℕ) (i : ℕ) → are_words words ≡ true → get_or words i 0 < 2 ^ 16
word-fits [] i test = lit< tt
word-fits (word ∷ words) zero test =
    ltb-true word (2 ^ 16) (and_parts (nat_lt word (2 ^ 16)) (are_words words) test).0
word-fits (word ∷ words) (suc i) test =
    word-fits words i (and_parts (nat_lt word (2 ^ 16)) (are_words words) test).1

-- A vtable with its table: the words of the vtable, and the distance of the table.
pub record HasVtable (bytes : List ℕ) (vtable place size : ℕ) (fields : List Field) : Type 0 where
  -- The words of the vtable: its own size, the table's, and the fields' places.
  pub words : Has bytes vtable (vtable_of size fields)
  pub back : Has bytes place (to_le_bytes w32 (place - vtable))
  pub before : vtable ≤ place
  pub near : place - vtable < 2 ^ 31
  pub fit : are_words ((4 + 2 * length fields) ∷ size ∷ map place_of fields) ≡ true

module _ (bytes : List ℕ) (vtable place size : ℕ) (fields : List Field)
    (has : HasVtable bytes vtable place size fields) where
  -- The words of the vtable: its own size, the table's, and the fields' places.
  abbrev words : List ℕ
  words = (4 + 2 * length fields) ∷ size ∷ map place_of fields

  -- The vtable has two words, and one more for each field.
  count : length words ≡ 2 + length fields
  count = let long : length (map place_of fields)
      ≡ length fields = length-map fields place_of in omega arith

  -- The vtable ends within the bytes.
  reach : vtable + (4 + 2 * length fields) ≤ length bytes
  reach = omega (arith, has.words.within, length-words words, count)

  -- The vtable is found from the place of its table.
  vtable-found : vtable_place bytes place ≡ Some vtable
  vtable-found =
      let far : ℕ = place - vtable in
      let back : number_from bytes place 4 ≡ far =
      has-number bytes place w32 far (omega (arith, has.near)) has.back in
      let low : nat_le (2 ^ 31) far ≡ false = lt-leb (2 ^ 31) far has.near in
      let behind : nat_le far place ≡ true = le-leb far place (omega arith) in
      let here : place - far ≡ vtable = omega (arith, has.before) in
      ap (λ (n : ℕ). if nat_le (2 ^ 31) n then Some (place + (2 ^ 32 - n)) else if nat_le n place
      then Some (place - n) else None) back
      ∙ ap (λ (b : Bool). if b then Some (place + (2 ^ 32 - far)) else if nat_le far place then Some
      (place - far) else None) low
      ∙ ap (λ (b : Bool). if b then Some (place - far) else None) behind
      ∙ ap (λ (n : ℕ). Some n) here

  -- The first word of the vtable reads as the vtable's size.
  size-read : number_from bytes vtable 2 ≡ 4 + 2 * length fields
  size-read =
      let here : vtable ≡ vtable + 2 * 0 = omega arith in
      ap (λ (n : ℕ). number_from bytes n 2) here
      ∙ word-read bytes vtable words 0 (omega (arith, count)) (word-fits words 0 has.fit) has.words

  -- An entry of the vtable reads as its field's place, or zero if there is none.
  entry-read : (index : ℕ) → entry_from bytes vtable index ≡ get_or (map place_of fields) index 0
  entry-read index =
      ap (λ (n : ℕ). if nat_le (6 + 2 * index) n then number_from bytes (vtable + 4 + 2 * index) 2
      else 0) size-read
      ∙ elim (cases_lt index (length fields)) [
        | inl below ↦
            let test : nat_le (6 + 2 * index) (4 + 2 * length fields) ≡ true =
            le-leb (6 + 2 * index) (4 + 2 * length fields) (omega arith) in
            let here : vtable + 4 + 2 * index ≡ vtable + 2 * suc (suc index) = omega arith in
            ap (λ (b : Bool). if b then number_from bytes (vtable + 4 + 2 * index) 2 else 0) test
            ∙ ap (λ (n : ℕ). number_from bytes n 2) here
            ∙ word-read bytes vtable words (suc (suc index)) (omega (arith, count))
            (word-fits words (suc (suc index)) has.fit) has.words
        | inr past ↦
            let test : nat_le (6 + 2 * index) (4 + 2 * length fields) ≡ false =
            lt-leb (6 + 2 * index) (4 + 2 * length fields) (omega arith) in
            ap (λ (b : Bool). if b then number_from bytes (vtable + 4 + 2 * index) 2 else 0) test
            ∙ sym (get_or_past (map place_of fields) index 0
            (omega (arith, length-map fields place_of)))
      ]

  -- The field's place is the one that the vtable tells, none where it is 0.
  pub field-read : (index : ℕ)
      → field_at bytes place index ≡ Ok (entry_place place (get_or (map place_of fields) index 0))
  field-read index =
      let sized : nat_lt (4 + 2 * length fields) 4 ≡ false =
      le-ltb (4 + 2 * length fields) 4 (omega arith) in
      within-held bytes place 4 (field_by bytes place index (vtable_place bytes place))
      (omega (arith, has.back.within))
      ∙ ap (field_by bytes place index) vtable-found
      ∙ within-held bytes vtable 2
      (if nat_lt (number_from bytes vtable 2) 4 then fault_at place 0
      else within bytes vtable (number_from bytes vtable 2)
      (Ok (entry_place place (entry_from bytes vtable index))))
      (omega (arith, reach))
      ∙ ap (λ (n : ℕ). if nat_lt n 4 then fault_at place 0 else within bytes vtable n
      (Ok (entry_place place (entry_from bytes vtable index)))) size-read
      ∙ ap (λ (b : Bool). if b then fault_at place 0 else within bytes vtable
      (4 + 2 * length fields) (Ok (entry_place place (entry_from bytes vtable index)))) sized
      ∙ within-held bytes vtable (4 + 2 * length fields)
      (Ok (entry_place place (entry_from bytes vtable index))) reach
      ∙ ap (λ (n : ℕ). Ok (entry_place place n)) (entry-read index)

-- ---- objects

-- A table is laid behind its vtable, with the fields at their places.
pub record IsTableAt (bytes : List ℕ) (end size : ℕ) (fields : List Field) : Type 0 where
  pub vtable : HasVtable bytes (aligned end) (table size fields end).place size fields
  pub laid : FieldsAt bytes (table size fields end).place ((table size fields end).place + size)
      fields
  pub inside : (table size fields end).place + size ≤ length bytes

-- the fields of a table, and its first word, do not overlap, and places and sizes fit words
pub record IsTable (size : ℕ) (fields : List Field) : Type 0 where
  pub apart : are_apart size (number 0 w32 0 ∷ fields) ≡ true
  pub fit : are_words ((4 + 2 * length fields) ∷ size ∷ map place_of fields) ≡ true

-- a vtable has two bytes for each word
pub length-vtable : (size : ℕ) (fields : List Field)
    → length (vtable_of size fields) ≡ 4 + 2 * length fields
length-vtable size fields =
    length-words ((4 + 2 * length fields) ∷ size ∷ map place_of fields)
    ∙ omega (arith, length-map fields place_of)

-- a table that was laid has its vtable and its fields
pub table-there : (bytes : List ℕ) (end size : ℕ) (fields : List Field) → IsTable size fields
    → Has bytes end (table size fields end).bytes → IsTableAt bytes end size fields
table-there bytes end size fields is has =
    let vtable : List ℕ = vtable_of size fields in
    let first : ℕ = aligned end in
    let first_end : ℕ = first + length vtable in
    let place : ℕ = aligned first_end in
    let all : List Field = number 0 w32 (place - first) ∷ fields in
    let body : List ℕ = with_fields place (replicate size 0) all in
    let gap_one : length (gap end first) ≡ first - end = length-replicate (first - end) 0 in
    let gap_two : length (gap first_end place) ≡ place - first_end =
    length-replicate (place - first_end) 0 in
    let long : length (gap end first ++ vtable) ≡ length (gap end first) + length vtable =
    length-append (gap end first) vtable in
    let three : length (gap end first ++ vtable ++ gap first_end place)
    ≡ length (gap end first ++ vtable) + length (gap first_end place) =
    length-append (gap end first ++ vtable) (gap first_end place) in
    let here : end + length (gap end first ++ vtable ++ gap first_end place) ≡ place =
    omega arith in
    let there : end + length (gap end first) ≡ first = omega arith in
    let room : length (replicate {A = ℕ} size 0) ≡ size = length-replicate size 0 in
    let P : ℕ → Type 0 = λ n. Has bytes n body in
    let Q : ℕ → Type 0 = λ n. Has bytes n vtable in
    let R : ℕ → Type 0 = λ n. FieldsAt bytes place (place + n) all in
    let bodied : Has bytes place body =
    subst P here (has-right bytes end (gap end first ++ vtable ++ gap first_end place) body has) in
    let front =
    has-left bytes end (gap end first ++ vtable) (gap first_end place)
    (has-left bytes end (gap end first ++ vtable ++ gap first_end place) body has) in
    let worded : Has bytes first vtable =
    subst Q there (has-right bytes end (gap end first) vtable front) in
    let laid : FieldsAt bytes place (place + size) all =
    subst R room (fields-there bytes place size (replicate size 0) all is.apart (omega arith)
    bodied) in
    let S : ℕ → Type 0 = λ n. Has bytes n (to_le_bytes w32 (place - first)) in
    let words_long : length vtable ≡ 4 + 2 * length fields = length-vtable size fields in
    let few : 4 + 2 * length fields < 2 ^ 16 =
    word-fits ((4 + 2 * length fields) ∷ size ∷ map place_of fields) 0 is.fit in
    let filled : length (replicate {A = ℕ} size 0) ≤ length body =
    laid-long place size (replicate size 0) all is.apart (omega arith) in
    record {
      vtable = record {
        words = worded;
        back = subst S (omega arith) laid.0;
        before = omega arith;
        near = omega arith;
        fit = is.fit;
      };
      laid = laid.1;
      inside = omega (arith, bodied.within);
    }

-- a vector's word stands behind the end, and its elements behind that
pub record IsVectorAt (bytes : List ℕ) (end count : ℕ) (elements : List ℕ) : Type 0 where
  pub word : Has bytes (length_place end) (to_le_bytes w32 count)
  pub content : Has bytes (length_place end + 4) elements

-- a vector that was laid has its count and its elements
pub vector-there : (bytes : List ℕ) (end count : ℕ) (elements : List ℕ)
    → Has bytes end (vector count elements end).bytes → IsVectorAt bytes end count elements
vector-there bytes end count elements has =
    let zeros : List ℕ = gap end (length_place end) in
    let word : List ℕ = to_le_bytes w32 count in
    let long : length zeros ≡ length_place end - end =
    length-replicate (length_place end - end) 0 in
    let joined : length (zeros ++ word) ≡ length zeros + length word = length-append zeros word in
    let four : length word ≡ 4 = length-number w32 count in
    let here : end + length zeros ≡ length_place end = omega arith in
    let there : end + length (zeros ++ word) ≡ length_place end + 4 = omega arith in
    let P : ℕ → Type 0 = λ n. Has bytes n word in
    let Q : ℕ → Type 0 = λ n. Has bytes n elements in
    record {
      word = subst P here (has-right bytes end zeros word
          (has-left bytes end (zeros ++ word) elements has));
      content = subst Q there (has-right bytes end (zeros ++ word) elements has);
    }

-- The elements are found, as many as the word tells.
pub vector-read : (bytes : List ℕ) (place count width : ℕ) → count < 2 ^ 32
    → place + 4 + count * width ≤ length bytes
    → Has bytes place (to_le_bytes w32 count) → vector_at bytes place width ≡ Ok (place + 4, count)
vector-read bytes place count width small room has =
    let part : ℕ → Result (ℕ × ℕ) FlatFault =
    λ n. within bytes (place + 4) (n * width) (Ok (place + 4, n)) in
    within-held bytes place 4 (part (number_from bytes place 4)) (omega (arith, has.within))
    ∙ ap part (has-number bytes place w32 count small has)
    ∙ within-held bytes (place + 4) (count * width) (Ok (place + 4, count)) room

-- A string's text is found.
pub string-read : (bytes : List ℕ) (end : ℕ) (text : List ℕ) → length text < 2 ^ 32
    → Has bytes end (string text end).bytes
    → text_at bytes (length_place end) ≡ Ok text
string-read bytes end text small has =
    let laid = vector-there bytes end (length text) (text ++ 0 ∷ []) has in
    let place : ℕ = length_place end in
    let there : Has bytes (place + 4) text =
    has-left bytes (place + 4) text (0 ∷ []) laid.content in
    let part : ℕ → Result (List ℕ) FlatFault =
    λ n. within bytes (place + 4) n (Ok (take n (drop (place + 4) bytes))) in
    within-held bytes place 4 (part (number_from bytes place 4)) (omega (arith, laid.word.within))
    ∙ ap part (has-number bytes place w32 (length text) small laid.word)
    ∙ within-held bytes (place + 4) (length text) (Ok (take (length text) (drop (place + 4) bytes)))
    there.within
    ∙ ap (λ (found : List ℕ). Ok found) (has-taken bytes (place + 4) text there)

-- A vector of tables: the word, and each reference with what it leads to.
pub record IsTablesAt (bytes : List ℕ) (end : ℕ) (tables : List Object) : Type 0 where
  pub word : Has bytes (length_place end) (to_le_bytes w32 (length tables))
  pub laid : FieldsAt bytes (length_place end) (length_place end + (4 + 4 * length tables))
      (references 4 tables)
  pub inside : length_place end + (4 + 4 * length tables) ≤ length bytes

-- references one after another do not overlap
apart-references : (at size from : ℕ) (tables : List Object) → at + size ≤ from
    → apart at size (references from tables) ≡ true
apart-references at size from [] before = refl
apart-references at size from (object ∷ tables) before =
    and_from (nat_le (at + size) from || nat_le (from + 4) at)
    (apart at size (references (from + 4) tables))
    (or_left (nat_le (at + size) from) (nat_le (from + 4) at) (le-leb (at + size) from before))
    (apart-references at size (from + 4) tables (omega arith))

-- References one behind the other that end by the size do not overlap.
are_apart-references : (from size : ℕ) (tables : List Object) → from + 4 * length tables ≤ size
    → are_apart size (references from tables) ≡ true
are_apart-references from size [] room = refl
are_apart-references from size (object ∷ tables) room =
    and_from (nat_le (from + 4) size && apart from 4 (references (from + 4) tables))
    (are_apart size (references (from + 4) tables))
    (and_from (nat_le (from + 4) size) (apart from 4 (references (from + 4) tables))
    (le-leb (from + 4) size (omega arith))
    (apart-references from 4 (from + 4) tables (omega arith)))
    (are_apart-references (from + 4) size tables (omega arith))

-- the word of a vector of tables and its references
pub references-apart : (tables : List Object)
    → are_apart (4 + 4 * length tables) (number 0 w32 (length tables) ∷ references 4 tables) ≡ true
references-apart tables =
    let size : ℕ = 4 + 4 * length tables in
    and_from (nat_le (0 + 4) size && apart 0 4 (references 4 tables))
    (are_apart size (references 4 tables))
    (and_from (nat_le (0 + 4) size) (apart 0 4 (references 4 tables))
    (le-leb (0 + 4) size (omega arith)) (apart-references 0 4 4 tables (omega arith)))
    (are_apart-references 4 size tables (omega arith))

-- a vector of tables that was laid has its references and its tables
pub tables-there : (bytes : List ℕ) (end : ℕ) (tables : List Object)
    → Has bytes end (vector_of_tables tables end).bytes → IsTablesAt bytes end tables
tables-there bytes end tables has =
    let place : ℕ = length_place end in
    let size : ℕ = 4 + 4 * length tables in
    let all : List Field = number 0 w32 (length tables) ∷ references 4 tables in
    let body : List ℕ = with_fields place (replicate size 0) all in
    let zeros : List ℕ = gap end place in
    let long : length zeros ≡ place - end = length-replicate (place - end) 0 in
    let here : end + length zeros ≡ place = omega arith in
    let room : length (replicate {A = ℕ} size 0) ≡ size = length-replicate size 0 in
    let test : are_apart size all ≡ true = references-apart tables in
    let P : ℕ → Type 0 = λ n. Has bytes n body in
    let Q : ℕ → Type 0 = λ n. FieldsAt bytes place (place + n) all in
    let R : ℕ → Type 0 = λ n. Has bytes n (to_le_bytes w32 (length tables)) in
    let bodied : Has bytes place body = subst P here (has-right bytes end zeros body has) in
    let laid : FieldsAt bytes place (place + size) all =
    subst Q room (fields-there bytes place size (replicate size 0) all test (omega arith) bodied) in
    let filled : length (replicate {A = ℕ} size 0) ≤ length body =
    laid-long place size (replicate size 0) all test (omega arith) in
    record {
      word = subst R (omega arith) laid.0;
      laid = laid.1;
      inside = omega (arith, bodied.within);
    }
