-- Numbers of 128 bits are read exactly from the words that spell them.
use Rattle.std.proofs.Common.{◌≡◌, ℕ, ◌+◌, ◌*◌, ◌-◌, ◌^◌, ◌<◌, ◌≤◌, true, false, List, [], ◌∷◌, length, suc, refl, sym, ap, ◌∙◌, subst, arith, rules}
use Rattle.std.specs.Prelude.{◌==◌, nat_le, int_le, fold, ℤ, pos, negsuc, neg_ℤ, Option, Some, None, Result, Ok, bytes_eq, decimal}
use Rattle.std.specs.Char.{digit_value}
use Rattle.std.specs.Fmt.{signed_decimal}
use Rattle.std.specs.List.{list_all}
use Rattle.std.specs.Int.{w128}
use Rattle.std.specs.Str.{IsUtf8, IsAscii}
use Rattle.std.specs.Str.Parse.{ParsesSigned}
use Rattle.std.proofs.lemmas.Bool.{leb-true, le-leb, lt-ltb, ne_eqb, and_parts}
use Rattle.std.proofs.lemmas.Fmt.{decimal_is_IsNumeral_wide, IsAscii-decimal_wide}
use Rattle.std.proofs.lemmas.Result.{Ok-from_Ok_iff}
use Rattle.std.proofs.lemmas.Str.{IsUtf8-from_ascii}
use Rattle.std.proofs.lemmas.Str.Ascii.{IsAscii-cons}
use Rattle.std.proofs.lemmas.Int.{to_z-of_z}
use mir.Val.{SFits, to_z, of_z}
use Rattle.std.proofs.lemmas.Str.Parse.{IsNumeralModel, numerals_by_fold, parse_signed_minus, parse_signed_digits}
use Rattle.workload_spec.specs.Valid.{is_within}
use Rattle.workload_spec.specs.Reading.{minus, value_of_digits, integer_in, integer_of}
use Rattle.workload_laws.proofs.Lists.{joined}
use Rattle.workload_laws.proofs.Results.{eq_of, spelled_as}
use Rattle.workload_laws.proofs.Numbers.{same_bytes, spelled_back}
use Rattle.workload_laws.proofs.Apart.{is_plain}
use Rattle.word_read.specs.Numbers.{are_digits}
use Rattle.reply_text.specs.Shown.{is_sum}
use Rattle.reply_text.specs.Readers.{sum_in}
use Rattle.reply_text.proofs.PieceLemmas.{step, where_is}

-- Words of digits, with the value of each, are a model of numerals.
own : IsNumeralModel (λ ds. are_digits ds ≡ true) (λ ds. value_of_digits ds)
own = numerals_by_fold _ (search rules) (λ n ds. fold (λ value digit. value * 10 + digit_value digit) n ds) (search rules)

-- what the digits of a number of at most 64 digits are
record IsDigits (n : ℕ) : Type 0 where
  digits : are_digits (decimal n) ≡ true
  some : 0 < length (decimal n)
  value : value_of_digits (decimal n) ≡ n

-- A number of at most 64 digits is the value of its digits.
decimal_is : (n : ℕ) → n < 10 ^ 64 → IsDigits n
decimal_is n small =
    let d = decimal_is_IsNumeral_wide n small in
    record { digits = own.from (decimal n) d.0.1; some = d.0.0; value = own.same (decimal n) d.0.1 ∙ d.1 }

-- A word of digits is of plain bytes.
digits_plain : (word : List ℕ) → are_digits word ≡ true → list_all is_plain word ≡ true
digits_plain [] digits = refl
digits_plain (byte ∷ bytes) digits =
    let d = and_parts (is_within 48 57 byte) (are_digits bytes) digits in
    let w = and_parts (nat_le 48 byte) (nat_le byte 57) d.0 in
    joined (lt-ltb 34 byte (omega (arith, leb-true 48 byte w.0))) (digits_plain bytes d.1)

-- how far a number of 128 bits is from 0
most_pos : (n : ℕ) → is_sum (pos n) ≡ true → n ≤ 2 ^ 127 - 1
most_pos n is = leb-true n (2 ^ 127 - 1) (and_parts (int_le (negsuc (2 ^ 127 - 1)) (pos n)) (nat_le n (2 ^ 127 - 1)) is).1

most_negative : (n : ℕ) → is_sum (negsuc n) ≡ true → n ≤ 2 ^ 127 - 1
most_negative n is = leb-true n (2 ^ 127 - 1) (and_parts (nat_le n (2 ^ 127 - 1)) (int_le (negsuc n) (pos (2 ^ 127 - 1))) is).0

-- the digits of such a number
sum_digits : (n : ℕ) → n ≤ 2 ^ 127 → IsDigits n
sum_digits n most = decimal_is n (omega (arith, most))

-- its spelling has plain bytes alone
pub sum_plain : (z : ℤ) → is_sum z ≡ true → list_all is_plain (signed_decimal z) ≡ true
sum_plain (pos n) is = let most = most_pos n is in digits_plain (decimal n) (sum_digits n (omega (arith, most))).digits
sum_plain (negsuc n) is = let most = most_negative n is in digits_plain (decimal (suc n)) (sum_digits (suc n) (omega (arith, most))).digits

-- The integer of a word of digits is their value.
unsigned : (word : List ℕ) → are_digits word ≡ true → 0 < length word → integer_in word ≡ pos (value_of_digits word)
unsigned [] digits some = absurd (omega (arith, some))
unsigned (first ∷ rest) digits some =
    let d = and_parts (is_within 48 57 first) (are_digits rest) digits in
    let least = leb-true 48 first (and_parts (nat_le 48 first) (nat_le first 57) d.0).0 in
    let n : first == minus ≡ false = ne_eqb first 45 (λ e. omega (arith, e, least)) in
    rw n refl

-- A number of 128 bits is the integer of its spelling.
integer_back : (z : ℤ) → is_sum z ≡ true → integer_in (signed_decimal z) ≡ z
integer_back (pos n) is =
    let most = most_pos n is in
    let d = sum_digits n (omega (arith, most)) in
    unsigned (decimal n) d.digits d.some ∙ ap pos d.value
integer_back (negsuc n) is =
    let most = most_negative n is in
    let d = sum_digits (suc n) (omega (arith, most)) in
    let v : value_of_digits (decimal (suc n)) ≡ suc n = d.value in
    rw v refl

-- a number of 128 bits is read back from its spelling
pub sum_back : (z : ℤ) → is_sum z ≡ true → sum_in (signed_decimal z) ≡ Some z
sum_back z is =
    let e : integer_of (signed_decimal z) ≡ Some z = spelled_back signed_decimal (signed_decimal z) (integer_in (signed_decimal z)) z (integer_back z is) refl in
    rw (e, is) refl

-- a number of 128 bits that is read is its word
pub sum_is : (word : List ℕ) (z : ℤ) → sum_in word ≡ Some z → (signed_decimal z ≡ word) × (is_sum z ≡ true)
sum_is word z e =
    step (integer_of word) _ z e (λ found is f.
    let w = where_is (is_sum found) found z f in
    (ap signed_decimal (sym w.1) ∙ spelled_as signed_decimal word (integer_in word) found is, ap is_sum (sym w.1) ∙ w.0))

-- The spelling of a number of 128 bits is parsed as it.
parse_back : {E : Type 0} (z : ℤ) (r : Result ℤ E) → is_sum z ≡ true → ParsesSigned w128 10 (signed_decimal z) r → r ≡ Ok z
parse_back (pos n) r is parses =
    let most = most_pos n is in
    let d = sum_digits n (omega (arith, most)) in
    let value : value_of_digits (decimal n) ≡ n = d.value in
    Ok-from_Ok_iff r _ _ (parse_signed_digits own w128 (decimal n) r parses d.digits) (d.some, omega (arith, most, value)) ∙ ap (λ (m : ℕ). Ok (pos m)) value
parse_back (negsuc n) r is parses =
    let most = most_negative n is in
    let d = sum_digits (suc n) (omega (arith, most)) in
    let value : value_of_digits (decimal (suc n)) ≡ suc n = d.value in
    Ok-from_Ok_iff r _ _ (parse_signed_minus own w128 (45 ∷ decimal (suc n)) r parses refl) (d.digits, d.some, omega (arith, most, value)) ∙ ap (λ (m : ℕ). Ok (neg_ℤ (pos m))) value

-- A number of 128 bits is one that its type has.
sum_fits : (z : ℤ) → SFits w128 z → is_sum z ≡ true
sum_fits (pos n) fits = let below : n < 2 ^ 127 = fits.sfits in joined refl (le-leb n (2 ^ 127 - 1) (omega (arith, below)))
sum_fits (negsuc n) fits = let below : n < 2 ^ 127 = fits.sfits in joined (le-leb n (2 ^ 127 - 1) (omega (arith, below))) refl

-- a word that is a number's spelling is read as the number
pub sum_spelled : (word : List ℕ) (z : ℤ) → SFits w128 z → bytes_eq (signed_decimal z) word ≡ true → sum_in word ≡ Some z
sum_spelled word z fits is = subst (λ (w : List ℕ). sum_in w ≡ Some z) (eq_of (signed_decimal z) word is) (sum_back z (sum_fits z fits))

-- a word that is not the spelling of what it would stand for is no number's
pub sum_other : (word : List ℕ) (z : ℤ) → ((sum : ℤ) → sum_in word ≡ Some sum → Some z ≡ Some sum) → bytes_eq (signed_decimal z) word ≡ false → sum_in word ≡ None
sum_other word z only other = by (sum_in word) refl
  where
    by : (o : Option ℤ) → sum_in word ≡ o → o ≡ None
    by None e = refl
    by (Some sum) e =
        let found = only sum e in
        let same : z ≡ sum = cc in
        let text : signed_decimal z ≡ word = ap signed_decimal same ∙ (sum_is word sum e).0 in
        absurd (let yes : bytes_eq (signed_decimal z) word ≡ true = subst (λ (w : List ℕ). bytes_eq (signed_decimal z) w ≡ true) text (same_bytes (signed_decimal z)) in cc)

-- where nothing is what a word would stand for, it is no number's spelling
pub sum_none : (word : List ℕ) → ((sum : ℤ) → sum_in word ≡ Some sum → None ≡ Some sum) → sum_in word ≡ None
sum_none word only = by (sum_in word) refl
  where
    by : (o : Option ℤ) → sum_in word ≡ o → o ≡ None
    by None e = refl
    by (Some sum) e = absurd (let found = only sum e in cc)

-- a number that a word spells is what the word is parsed as
pub sum_parsed : {E : Type 0} (word text : List ℕ) (z : ℤ) (r : Result ℤ E) → sum_in word ≡ Some z → text ≡ word → ParsesSigned w128 10 text r → r ≡ Ok z
sum_parsed word text z r e same parses =
    let s = sum_is word z e in
    parse_back z r s.1 (subst (λ (w : List ℕ). ParsesSigned w128 10 w r) (same ∙ sym s.0) parses)

-- what a word spells is one that its type has
pub sum_kept : (word : List ℕ) (z : ℤ) → sum_in word ≡ Some z → to_z w128 (of_z w128 z) ≡ z
sum_kept word z e = to_z-of_z w128 z (fits z (sum_is word z e).1)
  where
    fits : (n : ℤ) → is_sum n ≡ true → SFits w128 n
    fits (pos n) is = let most = most_pos n is in record { sfits = omega (arith, most) }
    fits (negsuc n) is = let most = most_negative n is in record { sfits = omega (arith, most) }

-- The spelling of a number of 128 bits is of bytes below 128.
sum_ascii : (z : ℤ) → is_sum z ≡ true → IsAscii (signed_decimal z)
sum_ascii (pos n) is = let most = most_pos n is in IsAscii-decimal_wide n (omega (arith, most))
sum_ascii (negsuc n) is = let most = most_negative n is in IsAscii-cons 45 (decimal (suc n)) (omega arith) (IsAscii-decimal_wide (suc n) (omega (arith, most)))

-- a word that spells a number is a text
pub sum_text : (word : List ℕ) (z : ℤ) → sum_in word ≡ Some z → IsUtf8 word
sum_text word z e = let s = sum_is word z e in subst IsUtf8 s.0 (IsUtf8-from_ascii (signed_decimal z) (sum_ascii z s.1))
