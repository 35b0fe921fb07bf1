-- Bytes are their parts with the separator between.
use Rattle.std.proofs.Common.{◌≡◌, ℕ, ◌<◌, Bool, true, false, List, [], ◌∷◌, length, refl, sym, ap, ◌∙◌, arith}
use Rattle.std.specs.Prelude.{◌&&◌, ◌==◌}
use Rattle.std.specs.List.{join_with_byte}
use Rattle.std.proofs.lemmas.Bool.{eqb-true, and_parts}
use Rattle.workload_spec.specs.Words.{space, spaced}
use Rattle.workload_spec.specs.Reading.{Position, AtStart, parted, parts, position_after, is_outside, words_from, words_of}

-- Parts with one more byte in front, parted by it or not, are at least one.
some_part : (b : Bool) (byte : ℕ) (ps : List (List ℕ)) → 0 < length (parted b byte ps)
some_part true byte ps = omega arith
some_part false byte [] = omega arith
some_part false byte (p ∷ ps) = omega arith

-- Parts with one more byte in front, parted by it or not, are joined behind it.
joined_by : (separator byte : ℕ) (b : Bool) (ps : List (List ℕ)) → 0 < length ps → (b ≡ true → byte ≡ separator) → join_with_byte separator (parted b byte ps) ≡ byte ∷ join_with_byte separator ps
joined_by separator byte b [] some is = absurd (omega (arith, some))
joined_by separator byte true (p ∷ ps) some is = ap (λ (b : ℕ). b ∷ join_with_byte separator (p ∷ ps)) (sym (is refl))
joined_by separator byte false (p ∷ []) some is = refl
joined_by separator byte false (p ∷ next ∷ ps) some is = refl

-- there is always a word, be it an empty one
pub words_some : (position : Position) (bytes : List ℕ) → 0 < length (words_from position bytes)
words_some position [] = omega arith
words_some position (byte ∷ bytes) = some_part (byte == space && is_outside position) byte (words_from (position_after position byte) bytes)

-- words joined by spaces are the bytes again
pub words_joined : (position : Position) (bytes : List ℕ) → spaced (words_from position bytes) ≡ bytes
words_joined position [] = refl
words_joined position (byte ∷ bytes) =
    joined_by space byte (byte == space && is_outside position) (words_from (position_after position byte) bytes) (words_some (position_after position byte) bytes)
    (λ e. eqb-true byte space (and_parts (byte == space) (is_outside position) e).0)
    ∙ ap (λ (bs : List ℕ). byte ∷ bs) (words_joined (position_after position byte) bytes)

-- a line is its words with one space between each two
pub line_joined : (line : List ℕ) → spaced (words_of line) ≡ line
line_joined line = words_joined AtStart line

-- there is always a part, be it an empty one
pub parts_some : (separator : ℕ) (bytes : List ℕ) → 0 < length (parts separator bytes)
parts_some separator [] = omega arith
parts_some separator (byte ∷ bytes) = some_part (byte == separator) byte (parts separator bytes)

-- parts joined by their separator are the bytes again
pub parts_joined : (separator : ℕ) (bytes : List ℕ) → join_with_byte separator (parts separator bytes) ≡ bytes
parts_joined separator [] = refl
parts_joined separator (byte ∷ bytes) =
    joined_by separator byte (byte == separator) (parts separator bytes) (parts_some separator bytes) (eqb-true byte separator)
    ∙ ap (λ (bs : List ℕ). byte ∷ bs) (parts_joined separator bytes)
