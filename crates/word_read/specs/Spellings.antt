-- The values that words spell, read strictly from left to right.
use Rattle.std.specs.Prelude.{ℕ, ◌+◌, ◌*◌, Bool, true, false, ◌&&◌, ◌||◌, not, ◌==◌, List, [], ◌∷◌}
use Rattle.std.specs.Prelude.{Option, None, Some, option_map, if◌then◌else◌, bytes_eq, codes}
use Rattle.std.specs.Char.{digit_value}
use Rattle.workload_spec.specs.Words.{quote, backslash, is_control}
use Rattle.workload_spec.specs.Valid.{is_within}
use Rattle.workload_spec.specs.Reading.{Spelling, Itself, Escape, FirstDigit, SecondDigit, hex_mark}

-- a lower-case hexadecimal digit
abbrev pub is_hex : ℕ → Bool
is_hex byte = is_within 48 57 byte || is_within 97 102 byte

-- a byte of a text that stands for itself: no quote, no backslash and no control byte
abbrev pub is_plain : ℕ → Bool
is_plain byte = not (byte == quote || byte == backslash || is_control byte)

-- the text ends behind its closing quote
abbrev pub closed : List ℕ → Option (List ℕ)
closed [] = Some []
closed (byte ∷ bytes) = None

-- The text whose spelling, behind its opening quote and from this place in it on, the bytes are.
abbrev pub text_from : Spelling → List ℕ → Option (List ℕ)
text_from spelling [] = None
text_from Itself (byte ∷ bytes) =
    if byte == quote then closed bytes
    else if byte == backslash then text_from Escape bytes
    else if is_control byte then None
    else option_map (λ text. byte ∷ text) (text_from Itself bytes)
text_from Escape (byte ∷ bytes) =
    if byte == quote || byte == backslash
    then option_map (λ text. byte ∷ text) (text_from Itself bytes)
    else if byte == hex_mark then text_from FirstDigit bytes
    else None
text_from FirstDigit (byte ∷ bytes) = if is_hex byte
    then text_from (SecondDigit (digit_value byte)) bytes else None
text_from (SecondDigit high) (byte ∷ bytes) =
    if is_hex byte && is_control (high * 16 + digit_value byte)
    then option_map (λ text. (high * 16 + digit_value byte) ∷ text) (text_from Itself bytes)
    else None

-- The text that a word spells: behind a quote, up to the quote that ends it.
abbrev pub text_of : List ℕ → Option (List ℕ)
text_of [] = None
text_of (first ∷ rest) = if first == quote then text_from Itself rest else None

-- the bytes whose pairs of hexadecimal digits these are
abbrev pub pairs_of : List ℕ → Option (List ℕ)
pairs_of [] = Some []
pairs_of (digit ∷ []) = None
pairs_of (high ∷ low ∷ rest) =
    if is_hex high && is_hex low then option_map
    (λ bytes. (digit_value high * 16 + digit_value low) ∷ bytes) (pairs_of rest) else None

-- the bytes that a word spells: behind an `x`
abbrev pub blob_of : List ℕ → Option (List ℕ)
blob_of [] = None
blob_of (mark ∷ digits) = if mark == hex_mark then pairs_of digits else None

-- the truth value that a word spells
abbrev pub truth_of : List ℕ → Option Bool
truth_of word = if bytes_eq word (codes "true") then Some true else if bytes_eq word (codes "false")
    then Some false else None
