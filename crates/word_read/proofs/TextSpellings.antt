-- Which words spell a text or bytes: those that are read strictly from left to right.
use Rattle.std.proofs.Common.{◌≡◌, ℕ, ◌+◌, ◌-◌, ◌*◌, ◌/◌, ◌%◌, ◌<◌, ◌≤◌, inl, inr, Bool, true, false, List, [], ◌∷◌, ◌++◌, refl, sym, ap, ◌∙◌, subst, arith}
use Rattle.std.specs.Prelude.{◌&&◌, ◌||◌, ◌==◌, nat_lt, nat_le, flat_map, Option, Some, None, option_map, if◌then◌else◌}
use Rattle.std.specs.List.{list_all}
use Rattle.std.proofs.lemmas.List.{append_assoc}
use Rattle.std.specs.Char.{digit_value, digit_char}
use Rattle.std.proofs.lemmas.Str.{digit_value-digit_char}
use Rattle.std.proofs.lemmas.Bool.{eq-eqb, eqb-true, ltb-true, ltb-false, lt-ltb, le-ltb, leb-true, le-leb, ne_eqb, and_parts, or_cases, or_parts, or_left, or_right}
use Rattle.std.proofs.lemmas.Slice.Eq.{bytes_eq-Decides}
use Rattle.workload_spec.specs.Words.{quote, backslash, is_control, hex_digits, escaped, quoted}
use Rattle.workload_spec.specs.Valid.{is_within}
use Rattle.workload_spec.specs.Reading.{spelled, Spelling, Itself, Escape, FirstDigit, SecondDigit, hex_mark, text_in, blob_in, bytes_of_digits}
use Rattle.word_read.specs.Spellings.{is_hex, closed, text_from, text_of, pairs_of, blob_of}
use Rattle.workload_laws.proofs.Lists.{joined}
use Rattle.workload_laws.proofs.Results.{spelled_as}
use Rattle.workload_laws.proofs.BlobBytes.{digits_small, found_is}
use Rattle.workload_laws.proofs.TextsBack.{text_back}

-- two options that have the same values are one
pub agree : {X : Type 0} (one other : Option X) → ((x : X) → one ≡ Some x → other ≡ Some x) → ((x : X) → other ≡ Some x → one ≡ Some x) → one ≡ other
agree None None to back = refl
agree None (Some x) to back = back x refl
agree (Some x) other to back = sym (to x refl)

-- where a value has one spelling and is read back from it, it is spelled exactly by that
pub spelled_by : {X : Type 0} (text_of : X → List ℕ) (value : List ℕ → X) (word : List ℕ) (x : X) → text_of x ≡ word → value (text_of x) ≡ x → spelled text_of word (value word) ≡ Some x
spelled_by {X} text_of value word x is back =
    let same : value word ≡ x = ap value (sym is) ∙ back in
    ap (spelled text_of word) same ∙ ap (λ (b : Bool). if b then Some x else None) ((bytes_eq-Decides (text_of x) word).1 is)

-- Hexadecimal digits.

-- The value of a decimal digit is how far it is from the zero.
digit_by : (c : ℕ) → 48 ≤ c → c ≤ 57 → digit_value c ≡ c - 48
digit_by c low high =
    let f : nat_lt c 48 ≡ false = le-ltb c 48 low in
    let g : nat_lt c 58 ≡ true = lt-ltb c 58 (omega arith) in
    rw (f, g) refl

-- A letter from a to f stands for ten to fifteen.
letter_by : (c : ℕ) → 97 ≤ c → c ≤ 102 → digit_value c ≡ c - 87
letter_by c low high =
    let a : nat_lt c 48 ≡ false = le-ltb c 48 (omega arith) in
    let b : nat_lt c 58 ≡ false = le-ltb c 58 (omega arith) in
    let d : nat_lt c 65 ≡ false = le-ltb c 65 (omega arith) in
    let e : nat_lt c 91 ≡ false = le-ltb c 91 (omega arith) in
    let f : nat_lt c 97 ≡ false = le-ltb c 97 low in
    let g : nat_lt c 123 ≡ true = lt-ltb c 123 (omega arith) in
    rw (a, b, d, e, f, g) refl

-- a hexadecimal digit's value, which spells it
pub record IsHex (c : ℕ) : Type 0 where
  pub small : digit_value c < 16
  pub back : digit_char (digit_value c) ≡ c

-- a hexadecimal digit spells its value
pub hex_is : (c : ℕ) → is_hex c ≡ true → IsHex c
hex_is c is = elim (or_cases (is_within 48 57 c) (is_within 97 102 c) is) [
  | inl d ↦
      let w = and_parts (nat_le 48 c) (nat_le c 57) d in
      let v = digit_by c (leb-true 48 c w.0) (leb-true c 57 w.1) in
      let l = leb-true 48 c w.0 in
      let h = leb-true c 57 w.1 in
      record {
        small = omega (arith, v, l, h);
        back = rw v (let t : nat_lt (c - 48) 10 ≡ true = lt-ltb (c - 48) 10 (omega (arith, l, h)) in rw t (omega (arith, l)));
      }
  | inr d ↦
      let w = and_parts (nat_le 97 c) (nat_le c 102) d in
      let v = letter_by c (leb-true 97 c w.0) (leb-true c 102 w.1) in
      let l = leb-true 97 c w.0 in
      let h = leb-true c 102 w.1 in
      record {
        small = omega (arith, v, l, h);
        back = rw v (let t : nat_lt (c - 87) 10 ≡ false = le-ltb (c - 87) 10 (omega (arith, l, h)) in rw t (omega (arith, l)));
      }
]

-- the digit of a value below 16 is hexadecimal
pub digit_hex : (d : ℕ) → d < 16 → is_hex (digit_char d) ≡ true
digit_hex d small = by (nat_lt d 10) refl
  where
    by : (b : Bool) → nat_lt d 10 ≡ b → is_hex (digit_char d) ≡ true
    by true e =
        let c : digit_char d ≡ 48 + d = rw e refl in
        rw c (or_left (is_within 48 57 (48 + d)) (is_within 97 102 (48 + d)) (joined (le-leb 48 (48 + d) (omega arith)) (le-leb (48 + d) 57 (omega (arith, ltb-true d 10 e)))))
    by false e =
        let c : digit_char d ≡ 87 + d = rw e refl in
        let ten : 10 ≤ d = ltb-false d 10 e in
        rw c (or_right (is_within 48 57 (87 + d)) (is_within 97 102 (87 + d)) (joined (le-leb 97 (87 + d) (omega (arith, ten))) (le-leb (87 + d) 102 (omega arith))))

-- the bytes of two digits
pub pair_of : (high low : ℕ) → is_hex high ≡ true → is_hex low ≡ true → hex_digits (digit_value high * 16 + digit_value low) ≡ high ∷ low ∷ []
pair_of high low h l =
    let a = hex_is high h in
    let b = hex_is low l in
    let first : (digit_value high * 16 + digit_value low) / 16 % 16 ≡ digit_value high = omega (arith, a.small, b.small) in
    let second : (digit_value high * 16 + digit_value low) % 16 ≡ digit_value low = omega (arith, a.small, b.small) in
    rw (first, second, a.back, b.back) refl

-- a byte is the value of its two digits
pub value_back : (byte : ℕ) → byte < 256 → digit_value (digit_char (byte / 16 % 16)) * 16 + digit_value (digit_char (byte % 16)) ≡ byte
value_back byte small =
    let h : digit_value (digit_char (byte / 16 % 16)) ≡ byte / 16 % 16 = digit_value-digit_char (byte / 16 % 16) (omega arith) in
    let l : digit_value (digit_char (byte % 16)) ≡ byte % 16 = digit_value-digit_char (byte % 16) (omega arith) in
    rw (h, l) (omega (arith, small))

-- Bytes.

-- A pair of digits before others spells its byte before those of the others.
pairs_by : (hex : Bool) (high low value : ℕ) (rest bytes : List ℕ) (more : Option (List ℕ)) → ((is : hex ≡ true) → hex_digits value ≡ high ∷ low ∷ []) → ((bs : List ℕ) → more ≡ Some bs → flat_map hex_digits bs ≡ rest)
    → (if hex then option_map (λ bs. value ∷ bs) more else None) ≡ Some bytes → flat_map hex_digits bytes ≡ high ∷ low ∷ rest
pairs_by true high low value rest bytes (Some bs) digits later e =
    let same : value ∷ bs ≡ bytes = cc in
    let d = digits refl in
    let r = later bs refl in
    subst (λ (all : List ℕ). flat_map hex_digits all ≡ high ∷ low ∷ rest) same (ap (λ (ds : List ℕ). ds ++ flat_map hex_digits bs) d ∙ ap (λ (ds : List ℕ). high ∷ low ∷ ds) r)
pairs_by true high low value rest bytes None digits later e = absurd cc
pairs_by false high low value rest bytes more digits later e = absurd cc

-- Bytes that are read from pairs of digits are spelled by these.
pairs_sound : (digits bytes : List ℕ) → pairs_of digits ≡ Some bytes → flat_map hex_digits bytes ≡ digits
pairs_sound [] bytes e = let same : [] ≡ bytes = cc in subst (λ (bs : List ℕ). flat_map hex_digits bs ≡ []) same refl
pairs_sound (digit ∷ []) bytes e = absurd cc
pairs_sound (high ∷ low ∷ rest) bytes e =
    pairs_by (is_hex high && is_hex low) high low (digit_value high * 16 + digit_value low) rest bytes (pairs_of rest)
    (λ is. let b = and_parts (is_hex high) (is_hex low) is in pair_of high low b.0 b.1) (λ bs f. pairs_sound rest bs f) e

-- Bytes are read back from the pairs of their digits.
pairs_complete : (bytes : List ℕ) → list_all (λ byte. nat_lt byte 256) bytes ≡ true → pairs_of (flat_map hex_digits bytes) ≡ Some bytes
pairs_complete [] all = refl
pairs_complete (byte ∷ bytes) all =
    let a = and_parts (nat_lt byte 256) (list_all (λ byte. nat_lt byte 256) bytes) all in
    let h : is_hex (digit_char (byte / 16 % 16)) ≡ true = digit_hex (byte / 16 % 16) (omega arith) in
    let l : is_hex (digit_char (byte % 16)) ≡ true = digit_hex (byte % 16) (omega arith) in
    rw (h, l, pairs_complete bytes a.1, value_back byte (ltb-true byte 256 a.0)) refl

-- The value of a pair stands before what is read of the others.
pairs_value_by : (hex : Bool) (value : ℕ) (bytes read : List ℕ) (more : Option (List ℕ)) → ((bs : List ℕ) → more ≡ Some bs → read ≡ bs) → (if hex then option_map (λ bs. value ∷ bs) more else None) ≡ Some bytes → value ∷ read ≡ bytes
pairs_value_by true value bytes read (Some bs) later e = let same : value ∷ bs ≡ bytes = cc in ap (λ (r : List ℕ). value ∷ r) (later bs refl) ∙ same
pairs_value_by true value bytes read None later e = absurd cc
pairs_value_by false value bytes read more later e = absurd cc

-- what pairs are read as is their value
pairs_value : (digits bytes : List ℕ) → pairs_of digits ≡ Some bytes → bytes_of_digits digits ≡ bytes
pairs_value [] bytes e = cc
pairs_value (digit ∷ []) bytes e = absurd cc
pairs_value (high ∷ low ∷ rest) bytes e = pairs_value_by (is_hex high && is_hex low) (digit_value high * 16 + digit_value low) bytes (bytes_of_digits rest) (pairs_of rest) (λ bs f. pairs_value rest bs f) e

-- Texts.

-- the spelling of a text behind its opening quote
abbrev pub closing : List ℕ → List ℕ
closing text = flat_map escaped text ++ quote ∷ []

-- A control byte is below 128.
control_small : (byte : ℕ) → is_control byte ≡ true → byte < 128
control_small byte is = elim (or_cases (nat_lt byte 0x20) (byte == 0x7f) is) [ inl e ↦ omega (arith, ltb-true byte 32 e) | inr e ↦ omega (arith, eqb-true byte 127 e) ]

-- A control byte is neither a quote nor a backslash.
control_apart : (byte : ℕ) → is_control byte ≡ true → (byte == quote || byte == backslash) ≡ false
control_apart byte is = elim (or_cases (nat_lt byte 0x20) (byte == 0x7f) is) [
  | inl e ↦ let lt = ltb-true byte 32 e in
      let q : byte == 34 ≡ false = ne_eqb byte 34 (λ s. omega (arith, s, lt)) in
      let k : byte == 92 ≡ false = ne_eqb byte 92 (λ s. omega (arith, s, lt)) in
      rw (q, k) refl
  | inr e ↦ let is = eqb-true byte 127 e in
      let q : byte == 34 ≡ false = ne_eqb byte 34 (λ s. omega (arith, s, is)) in
      let k : byte == 92 ≡ false = ne_eqb byte 92 (λ s. omega (arith, s, is)) in
      rw (q, k) refl
]

-- where in a text's spelling a reader stands, with the digit before it
data Place : Type 0 where
  Outside : Place
  AtEscape : Place
  AtFirst : Place
  AtSecond : ℕ → Place

-- What a reader that stands at the place reads next.
abbrev spelling_at : Place → Spelling
spelling_at Outside = Itself
spelling_at AtEscape = Escape
spelling_at AtFirst = FirstDigit
spelling_at (AtSecond digit) = SecondDigit (digit_value digit)

-- The bytes of the escape in which the place stands, up to it.
abbrev before : Place → List ℕ
before Outside = []
before AtEscape = 92 ∷ []
before AtFirst = 92 ∷ 120 ∷ []
before (AtSecond digit) = 92 ∷ 120 ∷ digit ∷ []

-- The digit before the place, if there is one, is hexadecimal.
abbrev Holds : Place → Type 0
Holds Outside = Unit {0}
Holds AtEscape = Unit {0}
Holds AtFirst = Unit {0}
Holds (AtSecond digit) = is_hex digit ≡ true

-- from this place on bytes are read as a text only where they are its spelling
abbrev Sound : Place → List ℕ → Type 0
Sound place bytes = Holds place → (text : List ℕ) → text_from (spelling_at place) bytes ≡ Some text → closing text ≡ before place ++ bytes

-- A quote behind which a text is closed is the spelling of the text.
closed_is : (byte : ℕ) (bytes text : List ℕ) → byte ≡ 34 → closed bytes ≡ Some text → closing text ≡ byte ∷ bytes
closed_is byte [] text is e = let same : [] ≡ text = cc in subst (λ (t : List ℕ). closing t ≡ byte ∷ []) same (ap (λ (b : ℕ). b ∷ []) (sym is))
closed_is byte (next ∷ bytes) text is e = absurd cc

-- a byte before a text, by its escape
grown : (byte : ℕ) (spelling word text : List ℕ) (more : Option (List ℕ)) → escaped byte ≡ spelling → ((t : List ℕ) → more ≡ Some t → closing t ≡ word) → option_map (λ t. byte ∷ t) more ≡ Some text → closing text ≡ spelling ++ word
grown byte spelling word text None is later e = absurd cc
grown byte spelling word text (Some t) is later e =
    let same : byte ∷ t ≡ text = cc in
    subst (λ (all : List ℕ). closing all ≡ spelling ++ word) same
    (append_assoc (escaped byte) (flat_map escaped t) (quote ∷ []) ∙ ap (λ (s : List ℕ). s ++ closing t) is ∙ ap (λ (w : List ℕ). spelling ++ w) (later t refl))

-- Outside an escape, a byte and the rest are read only as a spelling.
outside_by : (is_quote is_mark control : Bool) (byte : ℕ) (bytes text : List ℕ) → byte == quote ≡ is_quote → byte == backslash ≡ is_mark → is_control byte ≡ control → Sound AtEscape bytes → Sound Outside bytes
    → (if is_quote then closed bytes else if is_mark then text_from Escape bytes else if control then None else option_map (λ t. byte ∷ t) (text_from Itself bytes)) ≡ Some text → closing text ≡ byte ∷ bytes
outside_by true is_mark control byte bytes text q k c escape itself e = closed_is byte bytes text (eqb-true byte 34 q) e
outside_by false true control byte bytes text q k c escape itself e = escape tt text e ∙ ap (λ (b : ℕ). b ∷ bytes) (sym (eqb-true byte 92 k))
outside_by false false true byte bytes text q k c escape itself e = absurd cc
outside_by false false false byte bytes text q k c escape itself e = grown byte (byte ∷ []) bytes text (text_from Itself bytes) (rw (q, k, c) refl) (itself tt) e

-- Behind a backslash, a byte and the rest are read only as a spelling.
escape_by : (marked hex : Bool) (byte : ℕ) (bytes text : List ℕ) → (byte == quote || byte == backslash) ≡ marked → byte == hex_mark ≡ hex → Sound AtFirst bytes → Sound Outside bytes
    → (if marked then option_map (λ t. byte ∷ t) (text_from Itself bytes) else if hex then text_from FirstDigit bytes else None) ≡ Some text → closing text ≡ 92 ∷ byte ∷ bytes
escape_by true hex byte bytes text m h first itself e = grown byte (92 ∷ byte ∷ []) bytes text (text_from Itself bytes) (rw m refl) (itself tt) e
escape_by false true byte bytes text m h first itself e = first tt text e ∙ ap (λ (b : ℕ). 92 ∷ b ∷ bytes) (sym (eqb-true byte 120 h))
escape_by false false byte bytes text m h first itself e = absurd cc

-- At the first digit of an escape, a byte is read only as a spelling.
first_by : (hex : Bool) (byte : ℕ) (bytes text : List ℕ) → is_hex byte ≡ hex → Sound (AtSecond byte) bytes → (if hex then text_from (SecondDigit (digit_value byte)) bytes else None) ≡ Some text → closing text ≡ 92 ∷ 120 ∷ byte ∷ bytes
first_by true byte bytes text is second e = second is text e
first_by false byte bytes text is second e = absurd cc

-- At the second digit of an escape, a byte is read only as a spelling.
second_by : (passes : Bool) (digit byte : ℕ) (bytes text : List ℕ) → is_hex digit ≡ true → (is_hex byte && is_control (digit_value digit * 16 + digit_value byte)) ≡ passes → Sound Outside bytes
    → (if passes then option_map (λ t. (digit_value digit * 16 + digit_value byte) ∷ t) (text_from Itself bytes) else None) ≡ Some text → closing text ≡ 92 ∷ 120 ∷ digit ∷ byte ∷ bytes
second_by true digit byte bytes text is passes itself e =
    let p = and_parts (is_hex byte) (is_control (digit_value digit * 16 + digit_value byte)) passes in
    let spelling : escaped (digit_value digit * 16 + digit_value byte) ≡ 92 ∷ 120 ∷ digit ∷ byte ∷ [] =
    rw (control_apart (digit_value digit * 16 + digit_value byte) p.1, p.1) (ap (λ (ds : List ℕ). 92 ∷ 120 ∷ ds) (pair_of digit byte is p.0)) in
    grown (digit_value digit * 16 + digit_value byte) (92 ∷ 120 ∷ digit ∷ byte ∷ []) bytes text (text_from Itself bytes) spelling (itself tt) e
second_by false digit byte bytes text is passes itself e = absurd cc

-- From each place on, bytes are read as a text only where they spell it.
text_sound : (bytes : List ℕ) (place : Place) → Sound place bytes
text_sound [] place = λ holds text e. absurd (let none : text_from (spelling_at place) [] ≡ Some text = e in cc)
text_sound (byte ∷ bytes) Outside = λ holds text e.
    outside_by (byte == quote) (byte == backslash) (is_control byte) byte bytes text refl refl refl (text_sound bytes AtEscape) (text_sound bytes Outside) e
text_sound (byte ∷ bytes) AtEscape = λ holds text e.
    escape_by (byte == quote || byte == backslash) (byte == hex_mark) byte bytes text refl refl (text_sound bytes AtFirst) (text_sound bytes Outside) e
text_sound (byte ∷ bytes) AtFirst = λ holds text e. first_by (is_hex byte) byte bytes text refl (text_sound bytes (AtSecond byte)) e
text_sound (byte ∷ bytes) (AtSecond digit) = λ holds text e.
    second_by (is_hex byte && is_control (digit_value digit * 16 + digit_value byte)) digit byte bytes text holds refl (text_sound bytes Outside) e

-- A text that is read back is so with one byte more in front.
text_complete_by : (marked control : Bool) (byte : ℕ) (text : List ℕ) → (byte == quote || byte == backslash) ≡ marked → is_control byte ≡ control → text_from Itself (closing text) ≡ Some text → text_from Itself (closing (byte ∷ text)) ≡ Some (byte ∷ text)
text_complete_by true control byte text m c later = rw (m, later, m) refl
text_complete_by false true byte text m c later =
    let small = control_small byte c in
    let h : is_hex (digit_char (byte / 16 % 16)) ≡ true = digit_hex (byte / 16 % 16) (omega arith) in
    let l : is_hex (digit_char (byte % 16)) ≡ true = digit_hex (byte % 16) (omega arith) in
    let v = value_back byte (omega (arith, small)) in
    rw (m, c, h, l, v, c, later) refl
text_complete_by false false byte text m c later =
    let n = or_parts (byte == quote) (byte == backslash) m in
    rw (m, c, n.0, n.1, c, later) refl

-- A text is read back from its spelling behind the opening quote.
text_complete : (text : List ℕ) → text_from Itself (closing text) ≡ Some text
text_complete [] = refl
text_complete (byte ∷ text) = text_complete_by (byte == quote || byte == backslash) (is_control byte) byte text refl refl (text_complete text)

-- The words that spell values.

-- a word is the spelling of a text exactly where it is read as one
pub text_spelled : (word : List ℕ) → spelled quoted word (text_in word) ≡ text_of word
text_spelled [] = refl
text_spelled (first ∷ rest) = by (first == quote) refl
  where
    by : (is : Bool) → first == quote ≡ is → spelled quoted (first ∷ rest) (text_in (first ∷ rest)) ≡ (if is then text_from Itself rest else None)
    by true e = agree (spelled quoted (first ∷ rest) (text_in (first ∷ rest))) (text_from Itself rest)
        (λ text read. let is : quoted text ≡ first ∷ rest = spelled_as quoted (first ∷ rest) (text_in (first ∷ rest)) text read in let behind : closing text ≡ rest = cc in
        ap (text_from Itself) (sym behind) ∙ text_complete text)
        (λ text read. spelled_by quoted text_in (first ∷ rest) text (ap (λ (bytes : List ℕ). quote ∷ bytes) (text_sound rest Outside tt text read) ∙ ap (λ (b : ℕ). b ∷ rest) (sym (eqb-true first 34 e))) (text_back text))
    by false e = agree (spelled quoted (first ∷ rest) (text_in (first ∷ rest))) None
        (λ text read. absurd (let is : quoted text ≡ first ∷ rest = spelled_as quoted (first ∷ rest) (text_in (first ∷ rest)) text read in let same : 34 ≡ first = cc in
        let yes : first == quote ≡ true = eq-eqb first 34 (sym same) in cc))
        (λ text read. absurd cc)

-- the spelling of bytes
abbrev pub marked : List ℕ → List ℕ
marked bytes = hex_mark ∷ flat_map hex_digits bytes

-- a word is the spelling of bytes exactly where it is read as them
pub blob_spelled : (word : List ℕ) → spelled marked word (blob_in word) ≡ blob_of word
blob_spelled [] = refl
blob_spelled (mark ∷ digits) = by (mark == hex_mark) refl
  where
    by : (is : Bool) → mark == hex_mark ≡ is → spelled marked (mark ∷ digits) (blob_in (mark ∷ digits)) ≡ (if is then pairs_of digits else None)
    by true e = agree (spelled marked (mark ∷ digits) (blob_in (mark ∷ digits))) (pairs_of digits)
        (λ bytes read.
        let is : marked bytes ≡ mark ∷ digits = spelled_as marked (mark ∷ digits) (blob_in (mark ∷ digits)) bytes read in
        let behind : flat_map hex_digits bytes ≡ digits = cc in
        let same : bytes_of_digits digits ≡ bytes = found_is marked (mark ∷ digits) (blob_in (mark ∷ digits)) bytes read in
        let small : list_all (λ byte. nat_lt byte 256) bytes ≡ true = subst (λ (bs : List ℕ). list_all (λ byte. nat_lt byte 256) bs ≡ true) same (digits_small digits (ap (flat_map hex_digits) same ∙ behind)) in
        ap pairs_of (sym behind) ∙ pairs_complete bytes small)
        (λ bytes read.
        let behind : flat_map hex_digits bytes ≡ digits = pairs_sound digits bytes read in
        spelled_by marked blob_in (mark ∷ digits) bytes (ap (λ (ds : List ℕ). hex_mark ∷ ds) behind ∙ ap (λ (b : ℕ). b ∷ digits) (sym (eqb-true mark 120 e)))
        (ap bytes_of_digits behind ∙ pairs_value digits bytes read))
    by false e = agree (spelled marked (mark ∷ digits) (blob_in (mark ∷ digits))) None
        (λ bytes read. absurd (let is : marked bytes ≡ mark ∷ digits = spelled_as marked (mark ∷ digits) (blob_in (mark ∷ digits)) bytes read in let same : 120 ≡ mark = cc in
        let yes : mark == hex_mark ≡ true = eq-eqb mark 120 (sym same) in cc))
        (λ bytes read. absurd cc)
