-- What a chain of readings that succeeds says of each of them.
use Rattle.std.proofs.Common.{◌≡◌, ℕ, Bool, true, false, List, [], ◌∷◌, refl, sym, ap, ◌∙◌}
use Rattle.std.specs.Prelude.{Some, None, Option, bytes_eq, decimal, Result, Ok, Err, option_and_then, if◌then◌else◌}
use Rattle.std.proofs.lemmas.Slice.Eq.{bytes_eq-Decides}
use Rattle.workload_spec.specs.declared.script.Cause.{Cause}
use Rattle.workload_spec.specs.Valid.{is_within}
use Rattle.workload_spec.specs.Reading.{spelled, natural_of, natural_within, value_of_digits}
use Rattle.workload_spec.specs.Grammar.{◌>>=◌, or_cause, rule, word, no_word, keyword, number, on_line}

-- a first reading that gives a value, and what is read with it
pub step : {A B E P : Type 0} (first : Result A E) (next : A → Result B E) (b : B) → (first >>= next) ≡ Ok b → ((a : A) → first ≡ Ok a → next a ≡ Ok b → P) → P
step (Ok a) next b e k = k a refl e
step (Err fault) next b e k = absurd cc

-- where there was no cause, there was a value
pub some_of : {A : Type 0} (cause : Cause) (o : Option A) (a : A) → or_cause cause o ≡ Ok a → o ≡ Some a
some_of cause None a e = absurd cc
some_of cause (Some b) a e = cc

-- where a rule gave no cause, it was kept
pub rule_of : (cause : Cause) (b : Bool) (u : Unit {0}) → rule cause b ≡ Ok u → b ≡ true
rule_of cause true u e = refl
rule_of cause false u e = absurd cc

-- the word that is read is the first of them, and the others are left
pub word_is : (cause : Cause) (words : List (List ℕ)) (first : List ℕ × List (List ℕ)) → word cause words ≡ Ok first → words ≡ first.0 ∷ first.1
word_is cause [] first e = absurd cc
word_is cause (w ∷ rest) first e = let same : (w, rest) ≡ first = cc in ap (λ (p : List ℕ × List (List ℕ)). p.0 ∷ p.1) same

-- where no word may stand, none does
pub no_word_is : (cause : Cause) (words : List (List ℕ)) (u : Unit {0}) → no_word cause words ≡ Ok u → words ≡ []
no_word_is cause [] u e = refl
no_word_is cause (w ∷ rest) u e = absurd cc

-- bytes that are tested to be the same are equal
pub eq_of : (a b : List ℕ) → bytes_eq a b ≡ true → a ≡ b
eq_of a b e = (bytes_eq-Decides a b).0 e

-- where a keyword is read, it stands first
pub keyword_is : (cause : Cause) (text : List ℕ) (words rest : List (List ℕ)) → keyword cause text words ≡ Ok rest → words ≡ text ∷ rest
keyword_is cause text words rest e =
    step (word cause words) _ rest e (λ first is e1.
    step (rule cause (bytes_eq first.0 text)) _ rest e1 (λ u eq e2.
    let w = word_is cause words first is in
    let t : first.0 ≡ text = eq_of first.0 text (rule_of cause (bytes_eq first.0 text) u eq) in
    let r : first.1 ≡ rest = cc in
    rw (w, t, r) refl))

-- a value that a word spells
pub spelled_as : {X : Type 0} (text_of : X → List ℕ) (word : List ℕ) (value found : X) → spelled text_of word value ≡ Some found → text_of found ≡ word
spelled_as text_of word value found e = by (bytes_eq (text_of value) word) refl e
  where
    by : (b : Bool) → bytes_eq (text_of value) word ≡ b → (if b then Some value else None) ≡ Some found → text_of found ≡ word
    by true same is = let f : value ≡ found = cc in ap text_of (sym f) ∙ eq_of (text_of value) word same
    by false same is = absurd cc

-- a number that is found within bounds was there, and is within them
pub within_some : (low high : ℕ) (o : Option ℕ) (n : ℕ) → option_and_then (λ value. if is_within low high value then Some value else None) o ≡ Some n → (o ≡ Some n) × (is_within low high n ≡ true)
within_some low high None n e = absurd cc
within_some low high (Some v) n e = by (is_within low high v) refl e
  where
    by : (b : Bool) → is_within low high v ≡ b → (if b then Some v else None) ≡ Some n → (Some v ≡ Some n) × (is_within low high n ≡ true)
    by true in_ is = let same : v ≡ n = cc in (is, ap (is_within low high) (sym same) ∙ in_)
    by false in_ is = absurd cc

-- a number that is read is the first word's, and within its bounds
pub number_is : (cause : Cause) (low high : ℕ) (words : List (List ℕ)) (read : ℕ × List (List ℕ)) → number cause low high words ≡ Ok read
    → (words ≡ decimal read.0 ∷ read.1) × (is_within low high read.0 ≡ true)
number_is cause low high words read e =
    step (word cause words) _ read e (λ first is e1.
    step (or_cause cause (natural_within low high first.0)) _ read e1 (λ value eq e2.
    let w = word_is cause words first is in
    let n = within_some low high (natural_of first.0) value (some_of cause (natural_within low high first.0) value eq) in
    let t : decimal value ≡ first.0 = spelled_as decimal first.0 (value_of_digits first.0) value n.0 in
    let p : (value, first.1) ≡ read = cc in
    (w ∙ ap (λ (x : List ℕ). x ∷ first.1) (sym t) ∙ ap (λ (p : ℕ × List (List ℕ)). decimal p.0 ∷ p.1) p, ap (λ (p : ℕ × List (List ℕ)). is_within low high p.0) (sym p) ∙ n.1)))

-- what is read on a line is read without it too
pub on_line_is : {A : Type 0} (line : ℕ) (r : Result A Cause) (a : A) → on_line line r ≡ Ok a → r ≡ Ok a
on_line_is line (Ok b) a e = cc
on_line_is line (Err cause) a e = absurd cc

-- a reading that gives this value, and what is read with it
pub gives : {A B E : Type 0} (first : Result A E) (next : A → Result B E) (r : Result B E) (a : A) → first ≡ Ok a → next a ≡ r → (first >>= next) ≡ r
gives {A} {B} {E} first next r a is rest = ap (λ (f : Result A E). f >>= next) is ∙ rest

-- a rule that is kept gives no cause
pub rule_back : (cause : Cause) (b : Bool) → b ≡ true → rule cause b ≡ Ok tt
rule_back cause b is = ap (rule cause) is

-- what a test chooses
pub chosen : {X : Type 0} (b : Bool) (one other : X) → b ≡ true → elim b as (λ c. X) [ true ↦ one | false ↦ other ] ≡ one
chosen true one other e = refl
chosen false one other e = absurd cc

-- where the test fails, the other way is taken
pub passed : {X : Type 0} (b : Bool) (one other : X) → b ≡ false → elim b as (λ c. X) [ true ↦ one | false ↦ other ] ≡ other
passed true one other e = absurd cc
passed false one other e = refl
