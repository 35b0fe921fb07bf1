-- What a word or a line of a workload stands for. A word is read without care, and stands for what
-- was read only where that is spelled so: so no value has a second spelling, and the spellings are
-- the only ones.
use Rattle.std.specs.Prelude.{ℕ, ◌+◌, ◌*◌, Bool, true, false, ◌&&◌, ◌==◌, List, [], ◌∷◌, ◌++◌, ℤ}
use Rattle.std.specs.Prelude.{pos, neg_ℤ, fold, if◌then◌else◌, Option, None, Some, option_and_then}
use Rattle.std.specs.Prelude.{bytes_eq, codes, decimal}
use Rattle.std.specs.Fmt.{signed_decimal}
use Rattle.std.specs.Char.{digit_value}
use Rattle.std.specs.Option.{option_map_or}
use Rattle.cell_model.specs.declared.cell.Cell.{Cell}
use Rattle.cell_model.specs.declared.cell.Cell.TheVariants.{Null, Num, Truth, Text, Blob}
use Rattle.cell_model.specs.declared.kind.Kind.{Kind}
use Rattle.cell_model.specs.Kinds.{values_of}
use Rattle.cell_model.specs.declared.values.Values.{Values}
use Rattle.cell_model.specs.declared.values.Values.TheVariants.{Signed, Unsigned, Truths}
use Rattle.cell_model.specs.declared.values.Values.TheVariants.{Texts, Blobs, Strips}
use Rattle.cell_model.specs.declared.column.Column.{Column}
use Rattle.cell_model.specs.Rows.{cell_fault}
use Rattle.workload_spec.specs.Words.{space, quote, backslash, cell_text}
use Rattle.workload_spec.specs.Valid.{is_within}

-- the parts with an element before the first part's others
abbrev pub onto_first : {X : Type 0} → X → List (List X) → List (List X)
onto_first element [] = (element ∷ []) ∷ []
onto_first element (part ∷ parts) = (element ∷ part) ∷ parts

-- the parts behind a byte, which begins a new part where it parts and else belongs to the first
abbrev pub parted : Bool → ℕ → List (List ℕ) → List (List ℕ)
parted true byte parts = [] ∷ parts
parted false byte parts = onto_first byte parts

-- The parts of bytes between the places of a separator, one more than there are separators.
abbrev pub parts : ℕ → List ℕ → List (List ℕ)
parts separator [] = [] ∷ []
parts separator (byte ∷ bytes) = parted (byte == separator) byte (parts separator bytes)

-- where a byte stands: at the start of a word, within a text, behind a backslash in it, or else
-- within a word
pub data Position : Type 0 where
  AtStart : Position
  WithinText : Position
  BehindBackslash : Position
  WithinWord : Position

-- Where the next byte stands: a quote at a word's start opens a text, which ends at the next quote
-- that no backslash precedes; a space outside a text ends the word.
abbrev pub position_after : Position → ℕ → Position
position_after AtStart byte = if byte == quote then WithinText else if byte == space then AtStart
    else WithinWord
position_after WithinText byte = if byte == quote then WithinWord else if byte == backslash
    then BehindBackslash else WithinText
position_after BehindBackslash byte = WithinText
position_after WithinWord byte = if byte == space then AtStart else WithinWord

-- a byte here may end a word
abbrev pub is_outside : Position → Bool
is_outside AtStart = true
is_outside WithinText = false
is_outside BehindBackslash = false
is_outside WithinWord = true

-- the words from a byte in this position on
abbrev pub words_from : Position → List ℕ → List (List ℕ)
words_from position [] = [] ∷ []
words_from position (byte ∷ bytes) =
    parted (byte == space && is_outside position) byte
    (words_from (position_after position byte) bytes)

-- The words of a line: one space outside the texts parts two of them.
abbrev pub words_of : List ℕ → List (List ℕ)
words_of line = words_from AtStart line

-- the value of decimal digits
abbrev pub value_of_digits : List ℕ → ℕ
value_of_digits digits = fold (λ value digit. value * 10 + digit_value digit) 0 digits

-- the sign before a negative number
abbrev pub minus : ℕ
minus = 45

-- the number that a word would stand for: behind a `-` the negative one
abbrev pub integer_in : List ℕ → ℤ
integer_in [] = pos 0
integer_in (first ∷ rest) = if first == minus then neg_ℤ (pos (value_of_digits rest))
    else pos (value_of_digits (first ∷ rest))

-- the value, where the word is its spelling
abbrev pub spelled : {X : Type 0} → (X → List ℕ) → List ℕ → X → Option X
spelled text_of word value = if bytes_eq (text_of value) word then Some value else None

-- The number whose decimal digits the word is, without a sign, a leading zero or anything else.
abbrev pub natural_of : List ℕ → Option ℕ
natural_of word = spelled decimal word (value_of_digits word)

-- the number, where it lies between two
abbrev pub natural_within : ℕ → ℕ → List ℕ → Option ℕ
natural_within low high word = option_and_then
    (λ value. if is_within low high value then Some value else None) (natural_of word)

-- The number that the word is, with a `-` before a negative one.
abbrev pub integer_of : List ℕ → Option ℤ
integer_of word = spelled signed_decimal word (integer_in word)

-- where a byte of a text stands: for itself, behind a backslash, or where a hexadecimal digit is to
-- stand
pub data Spelling : Type 0 where
  Itself : Spelling
  Escape : Spelling
  FirstDigit : Spelling
  SecondDigit : ℕ → Spelling

-- the letter behind a backslash before two hexadecimal digits
abbrev pub hex_mark : ℕ
hex_mark = 120

-- where the next byte of a text stands
abbrev pub spelling_after : Spelling → ℕ → Spelling
spelling_after Itself byte = if byte == backslash then Escape else Itself
spelling_after Escape byte = if byte == hex_mark then FirstDigit else Itself
spelling_after FirstDigit byte = SecondDigit (digit_value byte)
spelling_after (SecondDigit high) byte = Itself

-- the byte that ends with this one, if one does
abbrev pub unescaped_at : Spelling → ℕ → List ℕ
unescaped_at Itself byte = if byte == backslash then [] else byte ∷ []
unescaped_at Escape byte = if byte == hex_mark then [] else byte ∷ []
unescaped_at FirstDigit byte = []
unescaped_at (SecondDigit high) byte = (high * 16 + digit_value byte) ∷ []

-- the bytes that a text between quotes spells, up to its closing quote
abbrev pub unescaped_from : Spelling → List ℕ → List ℕ
unescaped_from spelling [] = []
unescaped_from spelling (byte ∷ []) = []
unescaped_from spelling (byte ∷ next ∷ bytes) =
    unescaped_at spelling byte ++ unescaped_from (spelling_after spelling byte) (next ∷ bytes)

-- the bytes that a word between quotes spells
abbrev pub text_in : List ℕ → List ℕ
text_in [] = []
text_in (first ∷ rest) = unescaped_from Itself rest

-- the bytes of pairs of hexadecimal digits
abbrev pub bytes_of_digits : List ℕ → List ℕ
bytes_of_digits [] = []
bytes_of_digits (digit ∷ []) = []
bytes_of_digits (high ∷ low ∷ rest) = (digit_value high * 16 + digit_value low) ∷ bytes_of_digits
    rest

-- the bytes that a word behind its `x` spells
abbrev pub blob_in : List ℕ → List ℕ
blob_in [] = []
blob_in (mark ∷ digits) = bytes_of_digits digits

-- the value of a sort that a word would stand for
abbrev pub value_among : Values → List ℕ → Cell
value_among (Signed width) word = Num (integer_in word)
value_among (Unsigned width) word = Num (integer_in word)
value_among Truths word = Truth (bytes_eq word (codes "true"))
value_among (Texts width) word = Text (text_in word)
value_among (Blobs width) word = Blob (blob_in word)
value_among (Strips bytes) word = Blob (blob_in word)

-- the value of a kind that a word would stand for
abbrev pub value_in : Kind → List ℕ → Cell
value_in kind word = value_among (values_of kind) word

-- the cell of a column that a word would stand for
abbrev pub cell_in : Column → List ℕ → Cell
cell_in column word = if bytes_eq word (codes "null") then Null else value_in column.kind word

-- The cell of a column that the word spells: a null where there may be none, or a value of its
-- kind.
abbrev pub cell_of : Column → List ℕ → Option Cell
cell_of column word = option_and_then
    (λ cell. option_map_or (λ fault. None) (cell_fault 0 column cell) (Some cell))
    (spelled cell_text word (cell_in column word))
