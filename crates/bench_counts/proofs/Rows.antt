-- Rows that are read have numbers of at most 64 bits.
use Rattle.std.proofs.Common.{◌≡◌, ℕ, ◌<◌, ◌^◌, Bool, true, false, List, [], ◌∷◌, Option, None, Some, refl, subst, zero, suc, arith}
use Rattle.std.specs.Prelude.{ℤ, pos, negsuc, bytes_eq, codes, if◌then◌else◌, option_map, slice_get}
use Rattle.std.specs.Option.{option_map_or}
use Rattle.std.proofs.lemmas.Bool.{ltb-true}
use Rattle.std.proofs.lemmas.Int.{ints}
use Rattle.std.proofs.lemmas.List.Elements.{All-nil, All-cons}
use Rattle.cell_model.specs.declared.cell.Cell.{Cell}
use Rattle.cell_model.specs.declared.cell.Cell.TheVariants.{Null, Num, Truth, Text, Blob}
use Rattle.word_read.specs.Numbers.{is_small, magnitude, small_integer}
use Rattle.word_read.specs.Spellings.{truth_of, text_of, blob_of}
use Rattle.workload_spec.specs.Reading.{integer_of, words_of}
use Rattle.reply_text.specs.Readers.{◌>>=◌, behind, cell_in, cells_in, row_in, rows_in, value_from, value_in}
use Rattle.bench_spec.specs.Counted.{cell_number, row_number}
use Rattle.bench_counts.specs.Small.{AreSmall, IsNear}

-- Zero is a number of at most 64 bits.
near_0 : IsNear (2 ^ 64) (pos 0)
near_0 = record { low = omega (arith, ints); high = omega (arith, ints) }

-- A number whose magnitude has at most 64 bits lies within them.
near_of : (z : ℤ) → magnitude z < 2 ^ 64 → IsNear (2 ^ 64) z
near_of (pos n) few = record { low = omega (arith, ints); high = omega (arith, ints, few) }
near_of (negsuc n) few = record { low = omega (arith, ints, few); high = omega (arith, ints) }

-- the number of a cell that is read
abbrev IsCellNear : Option Cell → Type 0
IsCellNear o = (cell : Cell) → o ≡ Some cell → IsNear (2 ^ 64) (cell_number cell)

-- A cell made of a small integer that is read has a number within 64 bits.
number_near : (o : Option ℤ) → IsCellNear (option_map Num (small_integer o))
number_near None cell is = absurd cc
number_near (Some z) cell is = by (is_small (magnitude z)) refl is
  where
    by : (b : Bool) → is_small (magnitude z) ≡ b → option_map Num (if b then Some z else None) ≡ Some cell → IsNear (2 ^ 64) (cell_number cell)
    by true small e =
        let same : Num z ≡ cell = cc in
        subst (λ (c : Cell). IsNear (2 ^ 64) (cell_number c)) same (near_of z (ltb-true (magnitude z) (2 ^ 64) small))
    by false small e = absurd cc

-- A cell read as truth, text, bytes or number is within 64 bits where the number is.
value_near : (truth : Option Bool) (text blob : Option (List ℕ)) (number : Option Cell) → IsCellNear number → IsCellNear (value_from truth text blob number)
value_near (Some t) text blob number near cell is = let same : Truth t ≡ cell = cc in subst (λ (c : Cell). IsNear (2 ^ 64) (cell_number c)) same near_0
value_near None (Some t) blob number near cell is = let same : Text t ≡ cell = cc in subst (λ (c : Cell). IsNear (2 ^ 64) (cell_number c)) same near_0
value_near None None (Some b) number near cell is = let same : Blob b ≡ cell = cc in subst (λ (c : Cell). IsNear (2 ^ 64) (cell_number c)) same near_0
value_near None None None number near cell is = near cell is

-- A cell that is read from a word has a number within 64 bits.
cell_near : (word : List ℕ) → IsCellNear (cell_in word)
cell_near word = by (bytes_eq word (codes "null"))
  where
    by : (b : Bool) → IsCellNear (if b then Some Null else value_in word)
    by true cell is = let same : Null ≡ cell = cc in subst (λ (c : Cell). IsNear (2 ^ 64) (cell_number c)) same near_0
    by false cell is = value_near (truth_of word) (text_of word) (blob_of word) (option_map Num (small_integer (integer_of word))) (number_near (integer_of word)) cell is

-- the numbers of cells that are read
AreNear : List Cell → Type 0
AreNear cells = (at : ℕ) → IsNear (2 ^ 64) (option_map_or cell_number (slice_get cells at) (pos 0))

-- A row without cells has numbers within 64 bits.
none_near : AreNear []
unfolding AreNear
none_near at = near_0

-- One cell more whose number is within 64 bits leaves those of the row within them.
more_near : (cell : Cell) (cells : List Cell) → IsNear (2 ^ 64) (cell_number cell) → AreNear cells → AreNear (cell ∷ cells)
unfolding AreNear
more_near cell cells one others zero = one
more_near cell cells one others (suc at) = others at

-- Where the numbers of all cells are within 64 bits, the number of the row is.
at_near : (cells : List Cell) → AreNear cells → IsNear (2 ^ 64) (row_number cells)
unfolding AreNear
at_near cells near = near 1

-- If cells are read, their numbers are within 64 bits.
abbrev AreCellsNear : Option (List Cell) → Type 0
AreCellsNear o = (cells : List Cell) → o ≡ Some cells → AreNear cells

-- A cell and the cells behind it are read within 64 bits where both are.
then_near : (first : Option Cell) (rest : Option (List Cell)) → IsCellNear first → AreCellsNear rest
    → AreCellsNear (first >>= λ cell. rest >>= λ cells. Some (cell ∷ cells))
then_near None rest one others cells is = absurd cc
then_near (Some cell) None one others cells is = absurd cc
then_near (Some cell) (Some rest) one others cells is =
    let same : cell ∷ rest ≡ cells = cc in
    subst AreNear same (more_near cell rest (one cell refl) (others rest refl))

-- Cells that are read from words have numbers within 64 bits.
cells_near : (words : List (List ℕ)) → AreCellsNear (cells_in words)
cells_near [] = λ cells is. let same : [] ≡ cells = cc in subst AreNear same none_near
cells_near (word ∷ words) = then_near (cell_in word) (cells_in words) (cell_near word) (cells_near words)

-- the numbers of rows that are read
abbrev AreRowsSmall : Option (List (List Cell)) → Type 0
AreRowsSmall o = (rows : List (List Cell)) → o ≡ Some rows → AreSmall rows

-- The cells of a row that is read behind its bar have numbers within 64 bits.
behind_near : (bar : Option (List ℕ)) → AreCellsNear (bar >>= row_in)
behind_near None = λ cells is. absurd cc
behind_near (Some words) = cells_near (words_of words)

-- A row within 64 bits in front of small rows makes small rows.
next_small : (row : Option (List Cell)) (rest : Option (List (List Cell))) → AreCellsNear row → AreRowsSmall rest
    → AreRowsSmall (row >>= λ cells. rest >>= λ rows. Some (cells ∷ rows))
next_small None rest one others rows is = absurd cc
next_small (Some cells) None one others rows is = absurd cc
next_small (Some cells) (Some rest) one others rows is =
    let same : cells ∷ rest ≡ rows = cc in
    subst AreSmall same (All-cons (λ row. IsNear (2 ^ 64) (row_number row)) cells rest (at_near cells (one cells refl)) (others rest refl))

-- the numbers of rows that are read have at most 64 bits
pub rows_small : (lines : List (List ℕ)) → AreRowsSmall (rows_in lines)
rows_small [] = λ rows is. absurd cc
rows_small ([] ∷ []) = λ rows is. let same : [] ≡ rows = cc in subst AreSmall same (All-nil (λ row. IsNear (2 ^ 64) (row_number row)))
rows_small ((byte ∷ bytes) ∷ []) = λ rows is. absurd cc
rows_small (line ∷ next ∷ rest) = next_small (behind (codes "| ") line >>= row_in) (rows_in (next ∷ rest)) (behind_near (behind (codes "| ") line)) (rows_small (next ∷ rest))
