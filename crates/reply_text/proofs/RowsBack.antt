-- Rows over tables are read back from their lines.
use Rattle.std.proofs.Common.{◌≡◌, ℕ, ◌+◌, ◌^◌, true, false, List, [], ◌∷◌, ◌++◌, map, refl, ap, ◌∙◌, arith, append_assoc, length-append}
use Rattle.std.specs.Prelude.{nat_lt, ℤ, pos, negsuc, Some, codes}
use Rattle.std.specs.Fmt.{signed_decimal}
use Rattle.std.specs.List.{list_all}
use Rattle.std.proofs.lemmas.Bool.{ltb-true, and_parts}
use Rattle.cell_model.specs.declared.cell.Cell.{Cell}
use Rattle.cell_model.specs.declared.cell.Cell.TheVariants.{Null, Num, Truth, Text, Blob}
use Rattle.workload_spec.specs.Words.{line_feed, cell_text, cell_words, spaced, lines_text}
use Rattle.workload_spec.specs.Reading.{parts}
use Rattle.workload_spec.specs.ReplyText.{row_line}
use Rattle.workload_laws.proofs.Apart.{is_plain, is_whole, IsWord, AreWords, plain_word, words_apart, words_whole, line_first_part}
use Rattle.workload_laws.proofs.Numbers.{signed_plain}
use Rattle.workload_laws.proofs.TextsBack.{text_word, blob_word}
use Rattle.word_read.specs.Numbers.{magnitude}
use Rattle.reply_text.specs.Shown.{is_cell, is_row}
use Rattle.reply_text.specs.Readers.{◌>>=◌, behind, cells_in, row_in, rows_in}
use Rattle.reply_text.proofs.PieceLemmas.{gives}
use Rattle.reply_text.proofs.RowLemmas.{first_line}
use Rattle.reply_text.proofs.Spelled.{cells_back}

-- the spelling of an integer has plain bytes alone
pub integer_plain : (z : ℤ) → nat_lt (magnitude z) (2 ^ 64) ≡ true → list_all is_plain (signed_decimal z) ≡ true
integer_plain (pos n) small = signed_plain (pos n) (ltb-true n (2 ^ 64) small)
integer_plain (negsuc n) small = signed_plain (negsuc n) (ltb-true (n + 1) (2 ^ 64) small)

-- The text of a cell of replies is a word.
cell_word : (cell : Cell) → is_cell cell ≡ true → IsWord (cell_text cell)
cell_word Null fits = plain_word (codes "null") refl
cell_word (Num z) fits = plain_word (signed_decimal z) (integer_plain z fits)
cell_word (Truth true) fits = plain_word (codes "true") refl
cell_word (Truth false) fits = plain_word (codes "false") refl
cell_word (Text text) fits = text_word text
cell_word (Blob bytes) fits = blob_word bytes

-- The texts of cells of replies are words.
are_words : (cells : List Cell) → list_all is_cell cells ≡ true → AreWords (cell_words cells)
are_words [] fit = tt
are_words (cell ∷ cells) fit = let b = and_parts (is_cell cell) (list_all is_cell cells) fit in (cell_word cell b.0, are_words cells b.1)

-- a row is read back from its words
pub row_back : (row : List Cell) → is_row row ≡ true → row_in (spaced (cell_words row)) ≡ Some row
row_back [] fits = absurd cc
row_back (key ∷ cells) fits = ap cells_in (words_apart (cell_text key) (cell_words cells) (are_words (key ∷ cells) fits)) ∙ cells_back (key ∷ cells) fits

-- a row behind a word stands on one line
pub row_whole : (front : List ℕ) (row : List Cell) → IsWord front → is_row row ≡ true → is_whole (spaced (front ∷ cell_words row)) ≡ true
row_whole front [] is fits = absurd cc
row_whole front (key ∷ cells) is fits = words_whole (front ∷ cell_words (key ∷ cells)) (is, are_words (key ∷ cells) fits)

-- A row is read back from its line.
line_back : (row : List Cell) → is_row row ≡ true → (behind (codes "| ") (row_line row) >>= row_in) ≡ Some row
line_back [] fits = absurd cc
line_back (key ∷ cells) fits = row_back (key ∷ cells) fits

-- Rows are read back from their lines, with an empty one behind.
rows_back : (rows : List (List Cell)) → list_all is_row rows ≡ true → rows_in (map row_line rows ++ [] ∷ []) ≡ Some rows
rows_back [] fit = refl
rows_back (row ∷ rows) fit =
    let b = and_parts (is_row row) (list_all is_row rows) fit in
    let rest : List (List ℕ) = map row_line rows ++ [] ∷ [] in
    first_line (row_line row) rest (omega (arith, length-append (map row_line rows) ([] ∷ [])))
    ∙ gives (behind (codes "| ") (row_line row) >>= row_in) (λ one. rows_in rest >>= λ more. Some (one ∷ more)) (Some (row ∷ rows)) row (line_back row b.0)
    (gives (rows_in rest) (λ more. Some (row ∷ more)) (Some (row ∷ rows)) rows (rows_back rows b.1) refl)

-- The text of rows is parted at line feeds into their lines, with an empty one behind.
parts_back : (rows : List (List Cell)) → list_all is_row rows ≡ true → parts line_feed (lines_text (map row_line rows)) ≡ map row_line rows ++ [] ∷ []
parts_back [] fit = refl
parts_back (row ∷ rows) fit =
    let b = and_parts (is_row row) (list_all is_row rows) fit in
    ap (parts line_feed) (append_assoc (row_line row) (line_feed ∷ []) (lines_text (map row_line rows)))
    ∙ line_first_part (row_line row) (lines_text (map row_line rows)) (row_whole (codes "|") row (plain_word (codes "|") refl) b.0)
    ∙ ap (λ (lines : List (List ℕ)). row_line row ∷ lines) (parts_back rows b.1)

-- the rows of their lines
pub lines_back : (rows : List (List Cell)) → list_all is_row rows ≡ true → rows_in (parts line_feed (lines_text (map row_line rows))) ≡ Some rows
lines_back rows fit = ap rows_in (parts_back rows fit) ∙ rows_back rows fit
