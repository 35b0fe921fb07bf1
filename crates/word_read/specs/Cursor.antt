-- Reading in place: a line as its first word and what stands behind it.
use Rattle.std.specs.Prelude.{ℕ, ◌+◌, ◌&&◌, ◌==◌, List, [], ◌∷◌, if◌then◌else◌}
use Rattle.workload_spec.specs.Words.{space, line_feed}
use Rattle.workload_spec.specs.Reading.{Position, position_after, is_outside, words_of}

-- the words behind a word: none at the line's end, else those after the space
abbrev pub words_behind : List ℕ → List (List ℕ)
words_behind [] = []
words_behind (byte ∷ bytes) = words_of bytes

-- how many bytes stand before the space that ends the word
abbrev pub word_end : Position → List ℕ → ℕ
word_end position [] = 0
word_end position (byte ∷ bytes) =
    if byte == space && is_outside position then 0
    else word_end (position_after position byte) bytes + 1

-- how many bytes stand before the first line feed
abbrev pub line_end : List ℕ → ℕ
line_end [] = 0
line_end (byte ∷ bytes) = if byte == line_feed then 0 else line_end bytes + 1
