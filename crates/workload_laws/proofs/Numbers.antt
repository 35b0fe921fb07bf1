-- Numbers are read back from their spelling.
use Rattle.std.proofs.Common.{◌≡◌, ℕ, ◌+◌, ◌*◌, ◌-◌, ◌^◌, ◌<◌, ◌≤◌, Bool, true, false, List, [], ◌∷◌, length, suc, refl, ap, ◌∙◌, arith, rules}
use Rattle.std.specs.Prelude.{◌&&◌, ◌==◌, nat_le, int_le, fold, Some, bytes_eq, decimal, ℤ, pos, negsuc, Ok}
use Rattle.std.specs.Char.{digit_value}
use Rattle.std.specs.Fmt.{signed_decimal}
use Rattle.std.specs.List.{list_all}
use Rattle.std.proofs.lemmas.Bool.{leb-true, lt-ltb, ne_eqb, and_parts}
use Rattle.std.proofs.lemmas.Str.Parse.{IsNumeralModel, numerals_by_fold}
use Rattle.std.proofs.lemmas.Fmt.{digits_decimal, digits_value-decimal, decimal_nonempty}
use Rattle.std.proofs.lemmas.Slice.Eq.{bytes_eq-Decides}
use Rattle.workload_spec.specs.declared.script.Cause.{Cause}
use Rattle.workload_spec.specs.Valid.{is_within, is_key_number}
use Rattle.workload_spec.specs.Reading.{minus, spelled, value_of_digits, natural_of, natural_within, integer_in, integer_of}
use Rattle.workload_spec.specs.Grammar.{or_cause, rule, word, number, keyword}
use Rattle.workload_laws.proofs.Results.{gives, rule_back}
use Rattle.workload_laws.proofs.Lists.{joined}
use Rattle.workload_laws.proofs.Apart.{is_plain}

-- each byte is a decimal digit
abbrev pub are_digits : List ℕ → Bool
are_digits [] = true
are_digits (byte ∷ bytes) = is_within 48 57 byte && are_digits bytes

-- Words of digits, with the value of each, are a model of numerals.
own : IsNumeralModel (λ ds. are_digits ds ≡ true) (λ ds. value_of_digits ds)
own = numerals_by_fold _ (search rules) (λ n ds. fold (λ value digit. value * 10 + digit_value digit) n ds) (search rules)

-- a number below 2^64 is the value of its digits
pub value_back : (n : ℕ) → n < 2 ^ 64 → value_of_digits (decimal n) ≡ n
value_back n small = digits_value-decimal own n small

-- bytes are the same as themselves
pub same_bytes : (bytes : List ℕ) → bytes_eq bytes bytes ≡ true
same_bytes bytes = (bytes_eq-Decides bytes bytes).1 refl

-- bytes that are not equal are tested not to be the same
pub other_bytes : (a b : List ℕ) → (a ≡ b → ⊥) → bytes_eq a b ≡ false
other_bytes a b differ = by (bytes_eq a b) refl
  where
    by : (c : Bool) → bytes_eq a b ≡ c → c ≡ false
    by true e = absurd (differ ((bytes_eq-Decides a b).0 e))
    by false e = refl

-- a value is read from a word where it is spelled so
pub spelled_back : {X : Type 0} (text_of : X → List ℕ) (word : List ℕ) (found value : X) → found ≡ value → text_of value ≡ word → spelled text_of word found ≡ Some value
spelled_back text_of word found value is text = let s : bytes_eq (text_of found) word ≡ true = rw (is, text) (same_bytes word) in rw (s, is) refl

-- a number is read back from its digits
pub natural_back : (n : ℕ) → n < 2 ^ 64 → natural_of (decimal n) ≡ Some n
natural_back n small = spelled_back decimal (decimal n) (value_of_digits (decimal n)) n (value_back n small) refl

-- a number within two bounds is read back within them
pub within_back : (low high n : ℕ) → n < 2 ^ 64 → is_within low high n ≡ true → natural_within low high (decimal n) ≡ Some n
within_back low high n small within = rw (natural_back n small, within) refl

-- a first digit
pub record Begins (word : List ℕ) : Type 0 where
  pub first : ℕ
  pub rest : List ℕ
  pub is : word ≡ first ∷ rest
  pub least : 48 ≤ first
  pub most : first ≤ 57

-- A word of digits that has at least one begins with a digit.
begins_by : (word : List ℕ) → are_digits word ≡ true → 0 < length word → Begins word
begins_by [] digits some = absurd (omega (arith, some))
begins_by (first ∷ rest) digits some =
    let d = and_parts (is_within 48 57 first) (are_digits rest) digits in
    let w = and_parts (nat_le 48 first) (nat_le first 57) d.0 in
    record { first = first; rest = rest; is = refl; least = leb-true 48 first w.0; most = leb-true first 57 w.1 }

-- the digits of a number begin with a digit
pub decimal_begins : (n : ℕ) → n < 2 ^ 64 → Begins (decimal n)
decimal_begins n small = begins_by (decimal n) (digits_decimal own n small) (decimal_nonempty n small)

-- A word of digits is of plain bytes.
digits_plain : (word : List ℕ) → are_digits word ≡ true → list_all is_plain word ≡ true
digits_plain [] digits = refl
digits_plain (byte ∷ bytes) digits =
    let d = and_parts (is_within 48 57 byte) (are_digits bytes) digits in
    let w = and_parts (nat_le 48 byte) (nat_le byte 57) d.0 in
    joined (lt-ltb 34 byte (omega (arith, leb-true 48 byte w.0))) (digits_plain bytes d.1)

-- a number below 2^64 is spelled by digits
pub decimal_digits : (n : ℕ) → n < 2 ^ 64 → are_digits (decimal n) ≡ true
decimal_digits n small = digits_decimal own n small

-- and are all plain bytes
pub decimal_plain : (n : ℕ) → n < 2 ^ 64 → list_all is_plain (decimal n) ≡ true
decimal_plain n small = digits_plain (decimal n) (decimal_digits n small)

-- how far the integer is from 0
abbrev pub magnitude : ℤ → ℕ
magnitude (pos n) = n
magnitude (negsuc n) = n + 1

-- The integer of a word that begins with a digit is the value of its digits.
unsigned : (word : List ℕ) → Begins word → integer_in word ≡ pos (value_of_digits word)
unsigned [] begins = absurd (let e = begins.is in cc)
unsigned (first ∷ rest) begins =
    let same : first ≡ begins.first = (let e = begins.is in cc) in
    let n : first == minus ≡ false = ne_eqb first 45 (λ e. omega (arith, e, same, begins.least)) in
    rw n refl

-- an integer is the value of its spelling
pub integer_back : (z : ℤ) → magnitude z < 2 ^ 64 → integer_in (signed_decimal z) ≡ z
integer_back (pos n) small = unsigned (decimal n) (decimal_begins n small) ∙ ap pos (value_back n small)
integer_back (negsuc n) small =
    let v : value_of_digits (decimal (suc n)) ≡ suc n = value_back (suc n) (omega arith) in
    rw v refl

-- its spelling has plain bytes alone
pub signed_plain : (z : ℤ) → magnitude z < 2 ^ 64 → list_all is_plain (signed_decimal z) ≡ true
signed_plain (pos n) small = decimal_plain n small
signed_plain (negsuc n) small = decimal_plain (suc n) (omega arith)

-- a key's number has at most 64 bits
pub key_small : (z : ℤ) → is_key_number z ≡ true → magnitude z < 2 ^ 64
key_small (pos n) is = omega (arith, leb-true n (2 ^ 63 - 1) (and_parts (int_le (negsuc (2 ^ 63 - 1)) (pos n)) (nat_le n (2 ^ 63 - 1)) is).1)
key_small (negsuc n) is = omega (arith, leb-true n (2 ^ 63 - 1) (and_parts (int_le (negsuc (2 ^ 63 - 1)) (negsuc n)) _ is).0)

-- an integer is read back from its spelling
pub integer_of_back : (z : ℤ) → magnitude z < 2 ^ 64 → integer_of (signed_decimal z) ≡ Some z
integer_of_back z small = spelled_back signed_decimal (signed_decimal z) (integer_in (signed_decimal z)) z (integer_back z small) refl

-- a keyword is read where it stands first
pub keyword_back : (cause : Cause) (text : List ℕ) (rest : List (List ℕ)) → keyword cause text (text ∷ rest) ≡ Ok rest
keyword_back cause text rest = gives (rule cause (bytes_eq text text)) _ (Ok rest) tt (rule_back cause (bytes_eq text text) (same_bytes text)) refl

-- a number within its bounds is read where its digits stand first
pub number_back : (cause : Cause) (low high n : ℕ) (rest : List (List ℕ)) → n < 2 ^ 64 → is_within low high n ≡ true → number cause low high (decimal n ∷ rest) ≡ Ok (n, rest)
number_back cause low high n rest small within = gives (or_cause cause (natural_within low high (decimal n))) _ (Ok (n, rest)) n (ap (or_cause cause) (within_back low high n small within)) refl
