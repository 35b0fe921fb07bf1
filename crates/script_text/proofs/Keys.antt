-- Keys and numbers of a kind among the integers that words spell.
use Rattle.std.proofs.Common.{◌≡◌, ℕ, ◌+◌, ◌-◌, ◌^◌, ◌≤◌, Bool, true, false, List, refl, arith, Option}
use Rattle.std.specs.Prelude.{int_le, Some, None, ℤ, pos, negsuc, Ok}
use Rattle.std.proofs.lemmas.Bool.{ltb-false, lt-leb}
use Rattle.cell_model.specs.declared.kind.Kind.{Kind}
use Rattle.cell_model.specs.Kinds.{values_of}
use Rattle.cell_model.specs.Values.{is_integer_of}
use Rattle.workload_spec.specs.Valid.{is_key_number}
use Rattle.workload_spec.specs.declared.script.Cause.TheVariants as cause
use Rattle.workload_spec.specs.Grammar.{◌>>=◌, or_cause, rule, key_in, number_in}
use Rattle.workload_spec.specs.Reading.{integer_of}
use Rattle.word_read.specs.Numbers.{is_small, small_integer, magnitude}
use Rattle.script_text.proofs.Spelled.{large_none}

-- An integer with a magnitude of more than 64 bits is no key.
large_key : (number : ℤ) → is_small (magnitude number) ≡ false → is_key_number number ≡ false
large_key (pos number) large = let past : 2 ^ 64 ≤ number = ltb-false number (2 ^ 64) large in lt-leb number (2 ^ 63 - 1) (omega arith)
large_key (negsuc number) large = let past : 2 ^ 64 ≤ number + 1 = ltb-false (number + 1) (2 ^ 64) large in let f : int_le (negsuc (2 ^ 63 - 1)) (negsuc number) ≡ false = lt-leb number (2 ^ 63 - 1) (omega arith) in rw f refl

-- A key is read as such with its magnitude asked first, by whether that is small.
key_by : (number : ℤ) (small : Bool) → is_small (magnitude number) ≡ small → (rule cause.Number (is_key_number number) >>= λ fits. Ok number) ≡ (or_cause cause.Number (small_integer (Some number)) >>= λ key. rule cause.Number (is_key_number key) >>= λ fits. Ok key)
key_by number true e = rw e refl
key_by number false e = rw (e, large_key number e) refl

-- A key, if there is an integer, is read as such with its magnitude asked first.
key_of : (o : Option ℤ) → (or_cause cause.Number o >>= λ key. rule cause.Number (is_key_number key) >>= λ fits. Ok key) ≡ (or_cause cause.Number (small_integer o) >>= λ key. rule cause.Number (is_key_number key) >>= λ fits. Ok key)
key_of None = refl
key_of (Some number) = key_by number (is_small (magnitude number)) refl

-- a key's magnitude is below 2^64
pub key_small : (word : List ℕ) → key_in word ≡ (or_cause cause.Number (small_integer (integer_of word)) >>= λ key. rule cause.Number (is_key_number key) >>= λ fits. Ok key)
key_small word = key_of (integer_of word)

-- A number of a kind is read as such with its magnitude asked first, by whether that is small.
number_by : (its : Kind) (number : ℤ) (small : Bool) → is_small (magnitude number) ≡ small
    → (rule cause.Number (is_integer_of its number) >>= λ fits. Ok number) ≡ (or_cause cause.Number (small_integer (Some number)) >>= λ value. rule cause.Number (is_integer_of its value) >>= λ fits. Ok value)
number_by its number true e = rw e refl
number_by its number false e = rw (e, large_none (values_of its) number e) refl

-- A number of a kind, if there is an integer, is read as such with its magnitude asked first.
number_of : (its : Kind) (o : Option ℤ) → (or_cause cause.Number o >>= λ value. rule cause.Number (is_integer_of its value) >>= λ fits. Ok value) ≡ (or_cause cause.Number (small_integer o) >>= λ value. rule cause.Number (is_integer_of its value) >>= λ fits. Ok value)
number_of its None = refl
number_of its (Some number) = number_by its number (is_small (magnitude number)) refl

-- the magnitude of a number of a kind is below 2^64
pub number_small : (its : Kind) (word : List ℕ) → number_in its word ≡ (or_cause cause.Number (small_integer (integer_of word)) >>= λ value. rule cause.Number (is_integer_of its value) >>= λ fits. Ok value)
number_small its word = number_of its (integer_of word)
