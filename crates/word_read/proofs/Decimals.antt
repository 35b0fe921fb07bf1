-- Which words are the decimal spelling of a number below 2^64.
use Rattle.std.proofs.Common.{◌≡◌, ℕ, ◌+◌, ◌-◌, ◌*◌, ◌^◌, ◌<◌, ◌≤◌, Bool, true, false, cond, List, [], ◌∷◌, length, get_or, drop, drop-cons, zero, suc, add-one, refl, sym, subst, arith, rules, inl, inr, Option}
use Rattle.std.specs.Prelude.{neg_ℤ, ◌&&◌, if◌then◌else◌, fold, Some, None, bytes_eq, decimal, option_and_then, pos, negsuc}
use Rattle.std.specs.Char.{digit_value}
use Rattle.std.specs.Fmt.{signed_decimal}
use Rattle.std.proofs.Math.Dec.{ltb, leb}
use Rattle.std.proofs.Math.Bool.{and-false}
use Rattle.std.proofs.lemmas.Bool.{eq-eqb, ltb-true, lt-ltb, le-ltb, ltb-false, lt-leb, cases_lt}
use Rattle.std.proofs.Math.ListN.{drop_of_length-le}
use Rattle.std.proofs.lemmas.Bool.Decides.{eqb_tells}
use Rattle.std.proofs.lemmas.Slice.Eq.{bytes_eq-Decides}
use Rattle.std.proofs.lemmas.Str.Parse.{IsNumeralModel, numerals_by_fold}
use Rattle.std.proofs.lemmas.Fmt.{digits_decimal, decimal-digits_value, decimal_digit, first_decimal}
use Rattle.workload_spec.specs.Valid.{is_within}
use Rattle.workload_spec.specs.Reading.{value_of_digits, natural_of, natural_within, integer_of}
use Rattle.word_read.specs.Numbers.{are_digits, is_small, small_natural, small_integer, is_unpadded}

-- the value of digits with one more
abbrev pub step : ℕ → ℕ → ℕ
step value digit = value * 10 + digit_value digit

-- Words of digits, with the value of each, are a model of numerals.
own : IsNumeralModel (λ ds. are_digits ds ≡ true) (λ ds. value_of_digits ds)
own = numerals_by_fold _ (search rules) (λ n ds. fold (λ value digit. value * 10 + digit_value digit) n ds) (search rules)

-- digits more do not lower the value
pub grows : (ds : List ℕ) (n : ℕ) → n ≤ fold (λ value digit. value * 10 + digit_value digit) n ds
grows [] n = omega arith
grows (d ∷ ds) n = omega (arith, grows ds (n * 10 + digit_value d))

-- unpadded digits
unpadded_above : (ds : List ℕ) → 48 < get_or ds 0 0 → is_unpadded ds ≡ true
unpadded_above [] lt = absurd (omega (arith, lt))
unpadded_above (c ∷ []) lt = refl
unpadded_above (c ∷ d ∷ ds) lt = elim (eqb_tells c 48) [ inl e ↦ absurd (omega (arith, lt, e.1)) | inr e ↦ rw e.0 refl ]

-- Unpadded digits that begin with a zero are that zero alone.
unpadded_zero : (ds : List ℕ) → is_unpadded ds ≡ true → get_or ds 0 0 ≡ 48 → length ds ≡ 1
unpadded_zero [] u z = absurd cc
unpadded_zero (c ∷ []) u z = refl
unpadded_zero (c ∷ d ∷ ds) u z = absurd (let e = eq-eqb c 48 z in let f = rw e at u in cc)

-- Unpadded digits are at least one.
unpadded_some : (ds : List ℕ) → is_unpadded ds ≡ true → 0 < length ds
unpadded_some [] u = absurd cc
unpadded_some (c ∷ ds) u = omega arith

-- The decimal spelling of a number is unpadded.
unpadded-decimal : (v : ℕ) → v < 2 ^ 64 → is_unpadded (decimal v) ≡ true
unpadded-decimal v small = elim (cases_lt 0 v) [
  | inl lt ↦ unpadded_above (decimal v) (first_decimal v lt small)
  | inr le ↦ let z : v ≡ 0 = omega arith in rw (z, decimal_digit 0 (omega arith)) refl
]

-- Both parts of a conjunction that holds.
both : {s t : Bool} → (s && t) ≡ true → (s ≡ true) × (t ≡ true)
both {s = true} {t = true} e = (refl, refl)
both {s = true} {t = false} e = absurd cc
both {s = false} {t = t} e = absurd cc

-- Two tests that pass each pass together.
joined : {s t : Bool} → s ≡ true → t ≡ true → (s && t) ≡ true
joined p q = rw (p, q) refl

-- Two tests of which each passes where the other does are one.
same : (s t : Bool) → (s ≡ true → t ≡ true) → (t ≡ true → s ≡ true) → s ≡ t
same true t to back = sym (to refl)
same false true to back = back refl
same false false to back = refl

-- a test that fails finds nothing
pub refused : (b : Bool) (o : Option ℕ) → cond (b && false) o None ≡ None
refused true o = refl
refused false o = refl

-- For a small value two tests may be made one after the other.
sorted : (d u : Bool) (v : ℕ) → is_small v ≡ true → small_natural (cond (d && u) (Some v) None) ≡ cond u (cond (d && true) (Some v) None) None
sorted true true v s = rw s refl
sorted true false v s = refl
sorted false true v s = refl
sorted false false v s = refl

-- A value that is not small is found neither way.
dropped : (b d u : Bool) (v : ℕ) → is_small v ≡ false → small_natural (cond b (Some v) None) ≡ cond u (cond (d && false) (Some v) None) None
dropped true true true v s = rw s refl
dropped true true false v s = rw s refl
dropped true false true v s = rw s refl
dropped true false false v s = rw s refl
dropped false true true v s = refl
dropped false true false v s = refl
dropped false false true v s = refl
dropped false false false v s = refl

-- a number's decimal spelling is the word exactly where the word is unpadded digits of this value
is_spelling : (word : List ℕ) → is_small (value_of_digits word) ≡ true → bytes_eq (decimal (value_of_digits word)) word ≡ (are_digits word && is_unpadded word)
is_spelling word small = same (bytes_eq (decimal (value_of_digits word)) word) (are_digits word && is_unpadded word)
    (λ e. let is : decimal (value_of_digits word) ≡ word = (bytes_eq-Decides (decimal (value_of_digits word)) word).0 e in
    subst (λ (ds : List ℕ). (are_digits ds && is_unpadded ds) ≡ true) is (joined (digits_decimal own (value_of_digits word) (ltb-true _ _ small)) (unpadded-decimal (value_of_digits word) (ltb-true _ _ small))))
    (λ e. let parts = both e in
    (bytes_eq-Decides (decimal (value_of_digits word)) word).1 (decimal-digits_value own word parts.0 (unpadded_some word parts.1) (unpadded_zero word parts.1) (ltb-true _ _ small)))

-- Whether its value is small or not, a word spells a number by its digits.
judged : (word : List ℕ) (small : Bool) → is_small (value_of_digits word) ≡ small → small_natural (natural_of word) ≡ (if is_unpadded word then (if are_digits word && is_small (value_of_digits word) then Some (value_of_digits word) else None) else None)
judged word true small = rw (is_spelling word small, small) (sorted (are_digits word) (is_unpadded word) (value_of_digits word) small)
judged word false small = rw small (dropped (bytes_eq (decimal (value_of_digits word)) word) (are_digits word) (is_unpadded word) (value_of_digits word) small)

-- the number below 2^64 that a word spells, by its digits
pub natural_small : (word : List ℕ) → small_natural (natural_of word) ≡ (if is_unpadded word then (if are_digits word && is_small (value_of_digits word) then Some (value_of_digits word) else None) else None)
natural_small word = judged word (is_small (value_of_digits word)) refl

-- a value past 64 bits stays past them with digits more
pub digits_overflow : (ds : List ℕ) (n : ℕ) → 2 ^ 64 ≤ n → is_small (fold (λ value digit. value * 10 + digit_value digit) n ds) ≡ false
digits_overflow ds n le = le-ltb _ _ (omega (arith, le, grows ds n))

-- a word whose digits so far give 2^64 or more spells no number
pub overflow : (word : List ℕ) (i n : ℕ) (b : Bool) → i < length word → 2 ^ 64 ≤ n * 10 + digit_value (get_or word i 0)
    → value_of_digits word ≡ fold (λ value digit. value * 10 + digit_value digit) n (drop i word)
    → (if b && is_small (value_of_digits word) then Some (value_of_digits word) else None) ≡ None
overflow word i n b lt le e =
    let f : is_small (value_of_digits word) ≡ false = rw (e, drop-cons word i 0) (digits_overflow (drop (suc i) word) (n * 10 + digit_value (get_or word i 0)) le) in
    rw f (refused b (Some (value_of_digits word)))

-- a word that was read to its end spells the value of its digits, if it is digits alone
pub finished : (word : List ℕ) (i n : ℕ) → length word ≤ i → n < 2 ^ 64 → are_digits word ≡ are_digits (drop i word)
    → value_of_digits word ≡ fold (λ value digit. value * 10 + digit_value digit) n (drop i word)
    → Some n ≡ (if are_digits word && is_small (value_of_digits word) then Some (value_of_digits word) else None)
finished word i n le lt d v =
    let e = drop_of_length-le word le in
    let d' = rw e at d in
    let v' = rw e at v in
    let s : is_small n ≡ true = lt-ltb n (2 ^ 64) lt in
    rw (d', v', s) refl

-- the value of a decimal digit
pub digit_is : (b : ℕ) → 48 ≤ b → b ≤ 57 → digit_value b ≡ b - 48
digit_is b low high =
    let f : ltb b 48 ≡ false = le-ltb b 48 low in
    let g : ltb b 58 ≡ true = lt-ltb b 58 (omega arith) in
    rw (f, g) refl

-- A value that is not small is within no bounds that are.
above : (low high value : ℕ) → high < 2 ^ 64 → is_small value ≡ false → is_within low high value ≡ false
above low high value fits large = let past : 2 ^ 64 ≤ value = ltb-false value (2 ^ 64) large in let f : leb value high ≡ false = lt-leb value high (omega arith) in rw f (and-false (leb low value))

-- A value within small bounds is found among the small ones, as it is small.
within_by : (low high value : ℕ) (small : Bool) → is_small value ≡ small → high < 2 ^ 64 → (if is_within low high value then Some value else None) ≡ option_and_then (λ value. if is_within low high value then Some value else None) (small_natural (Some value))
within_by low high value true e fits = rw e refl
within_by low high value false e fits = rw (e, above low high value fits e) refl

-- What is found within small bounds is found so among the small numbers.
within_of : (low high : ℕ) (o : Option ℕ) → high < 2 ^ 64 → option_and_then (λ value. if is_within low high value then Some value else None) o ≡ option_and_then (λ value. if is_within low high value then Some value else None) (small_natural o)
within_of low high None fits = refl
within_of low high (Some value) fits = within_by low high value (is_small value) refl fits

-- a number between two that fit is below 2^64
pub within_small : (low high : ℕ) (word : List ℕ) → high < 2 ^ 64 → natural_within low high word ≡ option_and_then (λ value. if is_within low high value then Some value else None) (small_natural (natural_of word))
within_small low high word fits = within_of low high (natural_of word) fits

-- Where a number is not found as a small one, neither is its negative.
negative_by : (b small : Bool) (k : ℕ) → is_small (k + 1) ≡ small → small_natural (cond b (Some (suc k)) None) ≡ None → small_integer (cond b (Some (negsuc k)) None) ≡ None
negative_by true true k e none = let f : is_small (suc k) ≡ true = rw add-one at e in let g = rw f at none in absurd cc
negative_by true false k e none = rw e refl
negative_by false small k e none = refl

-- Behind a minus, digits that spell no small number spell no small integer.
negative_spelled : (digits : List ℕ) (v : ℕ) → small_natural (cond (bytes_eq (decimal v) digits) (Some v) None) ≡ None
    → small_integer (cond (bytes_eq (signed_decimal (neg_ℤ (pos v))) (45 ∷ digits)) (Some (neg_ℤ (pos v))) None) ≡ None
negative_spelled digits zero none = rw (decimal_digit 0 (omega arith)) refl
negative_spelled digits (suc k) none = negative_by (bytes_eq (decimal (suc k)) digits) (is_small (k + 1)) k refl none

-- behind a `-` what spells no number, and 0, spell no integer
pub negative_none : (word : List ℕ) → get_or word 0 0 ≡ 45 → small_natural (natural_of (drop 1 word)) ≡ None → small_integer (integer_of word) ≡ None
negative_none [] is none = absurd cc
negative_none (mark ∷ digits) is none = rw (is) (negative_spelled digits (value_of_digits digits) none)
