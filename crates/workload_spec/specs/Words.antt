-- The words of a workload and of its replies: numbers, names and cells, and the lines that they
-- make.
use Rattle.std.specs.Prelude.{ℕ, ◌/◌, ◌%◌, Bool, ◌||◌, ◌==◌, nat_lt, List, [], ◌∷◌, ◌++◌, map}
use Rattle.std.specs.Prelude.{flat_map, codes, if◌then◌else◌}
use Rattle.std.specs.Fmt.{signed_decimal}
use Rattle.std.specs.List.{join_with_byte}
use Rattle.std.specs.Char.{digit_char}
use Rattle.cell_model.specs.declared.cell.Cell.{Cell}
use Rattle.cell_model.specs.declared.cell.Cell.TheVariants.{Null, Num, Truth, Text, Blob}

-- the bytes that part words and lines, and those with a meaning in a text
abbrev pub space : ℕ
space = 32

abbrev pub line_feed : ℕ
line_feed = 10

abbrev pub quote : ℕ
quote = 34

abbrev pub backslash : ℕ
backslash = 92

-- the byte is one that a text spells by its two hexadecimal digits: below 20 or 7f
abbrev pub is_control : ℕ → Bool
is_control byte = nat_lt byte 0x20 || byte == 0x7f

-- two lower-case hexadecimal digits
abbrev pub hex_digits : ℕ → List ℕ
hex_digits byte = digit_char (byte / 16 % 16) ∷ digit_char (byte % 16) ∷ []

-- A byte of a text: a quote and a backslash stand behind a backslash, a control byte is `\x` and
-- its hexadecimal digits, and any other byte stands for itself.
abbrev pub escaped : ℕ → List ℕ
escaped byte =
    if byte == quote || byte == backslash then backslash ∷ byte ∷ []
    else if is_control byte then codes "\\x" ++ hex_digits byte
    else byte ∷ []

-- a text between quotes
abbrev pub quoted : List ℕ → List ℕ
quoted text = quote ∷ (flat_map escaped text ++ quote ∷ [])

-- A cell: `null`, a number, `true` or `false`, a text between quotes, or `x` and pairs of
-- hexadecimal digits.
abbrev pub cell_text : Cell → List ℕ
cell_text Null = codes "null"
cell_text (Num number) = signed_decimal number
cell_text (Truth truth) = if truth then codes "true" else codes "false"
cell_text (Text text) = quoted text
cell_text (Blob bytes) = codes "x" ++ flat_map hex_digits bytes

-- the words of cells
abbrev pub cell_words : List Cell → List (List ℕ)
cell_words cells = map cell_text cells

-- words with one space between each two
abbrev pub spaced : List (List ℕ) → List ℕ
spaced words = join_with_byte space words

-- lines, each ended by a line feed
abbrev pub lines_text : List (List ℕ) → List ℕ
lines_text lines = flat_map (λ line. line ++ line_feed ∷ []) lines
