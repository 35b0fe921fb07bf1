-- The number that a word gives.
use Rattle.std.proofs.Common.{◌≡◌, ℕ, ◌<◌, ◌≤◌, ◌^◌, Bool, true, false, List, [], ◌∷◌, None, Some, length, refl, sym, ap, ap₂, ◌∙◌, arith}
use Rattle.std.specs.Prelude.{◌&&◌, nat_le, nat_lt, if◌then◌else◌}
use Rattle.std.specs.Char.{digit_value}
use Rattle.std.specs.List.{list_all}
use Rattle.std.specs.Str.Parse.{AllDigits, IsNumeral, digits_value, without_leading_plus}
use Rattle.std.proofs.lemmas.Bool.{le-leb, leb-true, lt-ltb, ltb-true, and_parts, and_right}
use Rattle.clap.specs.Words.{Text}
use Rattle.program.specs.Words.{are_digits, number_in, within}

-- Where all bytes are digits, each of them has a value below ten.
each_digit : (bytes : List ℕ) → AllDigits 10 bytes → list_all (λ byte. nat_lt (digit_value byte) 10) bytes ≡ true
each_digit [] all = refl
each_digit (byte ∷ bytes) all = ap₂ (λ (a b : Bool). a && b) (lt-ltb (digit_value byte) 10 all.0) (each_digit bytes all.1)

-- Where each byte has a value below ten, all are digits.
all_digits : (bytes : List ℕ) → list_all (λ byte. nat_lt (digit_value byte) 10) bytes ≡ true → AllDigits 10 bytes
all_digits [] each = tt
all_digits (byte ∷ bytes) each =
    let parts = and_parts (nat_lt (digit_value byte) 10) (list_all (λ b. nat_lt (digit_value b) 10) bytes) each in
    (ltb-true (digit_value byte) 10 parts.0, all_digits bytes parts.1)

-- The bytes of a decimal numeral pass the test for digits.
digits_are : (bytes : List ℕ) → IsNumeral 10 bytes → are_digits bytes ≡ true
digits_are bytes numeral = ap₂ (λ (a b : Bool). a && b) (lt-ltb 0 (length bytes) numeral.0) (each_digit bytes numeral.1)

-- Bytes that pass the test for digits are a decimal numeral.
numeral_of : (bytes : List ℕ) → are_digits bytes ≡ true → IsNumeral 10 bytes
numeral_of bytes are =
    let parts = and_parts (nat_lt 0 (length bytes)) (list_all (λ b. nat_lt (digit_value b) 10) bytes) are in
    (ltb-true 0 (length bytes) parts.0, all_digits bytes parts.1)

-- a number that a word gives and that lies between
pub number_found : (low high : ℕ) (word : Text) (number : ℕ) → IsNumeral 10 (without_leading_plus word) → number ≡ digits_value 10 (without_leading_plus word)
    → low ≤ number → number ≤ high → Some number ≡ number_in low high word
number_found low high word number numeral is above below =
    let inside : (nat_le low number && nat_le number high) ≡ true = ap₂ (λ (a b : Bool). a && b) (le-leb low number above) (le-leb number high below) in
    let some : Some number ≡ within low high number = ap (λ (b : Bool). if b then Some number else None) (sym inside) in
    some ∙ ap (within low high) is
    ∙ ap (λ (b : Bool). if b then within low high (digits_value 10 (without_leading_plus word)) else None) (sym (digits_are (without_leading_plus word) numeral))

-- A value above the high bound is not within the bounds.
too_high : (low high value : ℕ) (b : Bool) → nat_le value high ≡ b → (value ≤ high → ⊥) → None ≡ within low high value
too_high low high value true is above = absurd (above (leb-true value high is))
too_high low high value false is above =
    ap (λ (b : Bool). if b then Some value else None) (sym (ap (λ (c : Bool). nat_le low value && c) is ∙ and_right (nat_le low value) false refl))

-- a word that is none of 64 bits
pub number_missed : (low high : ℕ) (word : Text) → high < 2 ^ 64 → (IsNumeral 10 (without_leading_plus word) × (digits_value 10 (without_leading_plus word) < 2 ^ 64) → ⊥)
    → None ≡ number_in low high word
number_missed low high word few none = by (are_digits (without_leading_plus word)) refl
  where
    by : (b : Bool) → are_digits (without_leading_plus word) ≡ b → None ≡ (if b then within low high (digits_value 10 (without_leading_plus word)) else None)
    by true are = too_high low high (digits_value 10 (without_leading_plus word)) (nat_le (digits_value 10 (without_leading_plus word)) high) refl
        (λ below. none (numeral_of (without_leading_plus word) are, omega (arith, below, few)))
    by false are = refl
