-- A row that fits columns is a row of replies, and its line is read as it.
use Rattle.std.proofs.Common.{◌≡◌, ℕ, ◌+◌, ◌^◌, ◌<◌, Bool, true, false, cond, List, [], ◌∷◌, ◌++◌, length, drop, Option, None, Some, Result, Ok, Err, refl, sym, ap, ◌∙◌, subst, arith}
use Rattle.std.specs.Prelude.{◌==◌, is_none, bytes_eq, option_and_then, if◌then◌else◌}
use Rattle.std.specs.List.{list_all}
use Rattle.std.specs.Result.{result_ok}
use Rattle.std.proofs.lemmas.Bool.{and_parts, and_from, lt-ltb, eqb-true, eq-eqb}
use Rattle.std.proofs.lemmas.Slice.Eq.{bytes_eq-Decides}
use Rattle.cell_model.specs.declared.cell.Cell.{Cell}
use Rattle.cell_model.specs.declared.cell.Cell.TheVariants.{Null, Num, Truth, Text, Blob}
use Rattle.cell_model.specs.declared.column.Column.{Column}
use Rattle.cell_model.specs.declared.row.RowFault.{RowFault}
use Rattle.cell_model.specs.declared.row.RowFault.TheVariants.{Arity}
use Rattle.cell_model.specs.Rows.{cell_fault, first_fault, fits}
use Rattle.cell_model.specs.Kinds.{values_of, takes_bytes}
use Rattle.cell_model.specs.Values.{are_bytes}
use Rattle.workload_spec.specs.declared.script.Cause.{Cause}
use Rattle.workload_spec.specs.Grammar.{cells_of}
use Rattle.workload_spec.specs.ReplyText.{row_line}
use Rattle.workload_spec.specs.Words.{cell_words}
use Rattle.workload_laws.proofs.Apart.{plain_word}
use Rattle.workload_laws.proofs.Cells.{cells_are, fault_at}
use Rattle.workload_laws.proofs.CellsBack.{first_fits, small_of, value_of_fit}
use Rattle.outcome_spec.specs.Reading.{row_of, row_at, words_in}
use Rattle.timeline_laws.proofs.Cells.{row_back}
use Rattle.timeline_laws.proofs.ReadLines.{words_of_line}
use Rattle.reply_text.specs.Shown.{is_cell, is_row}
use Rattle.word_read.specs.Numbers.{magnitude}
use Rattle.std.specs.Prelude.{codes}

-- false is not true
pub never : false ≡ true → ⊥
never h = let n : ⊥ = cc in n

-- A cell that fits a column is one of replies.
cell_fits : (column : Column) (cell : Cell) → is_none (cell_fault 0 column cell) ≡ true → is_cell cell ≡ true
cell_fits column Null fit = refl
cell_fits column (Num z) fit = lt-ltb (magnitude z) (2 ^ 64) (small_of (values_of column.kind) z (value_of_fit column (Num z) refl fit))
cell_fits column (Truth truth) fit = refl
cell_fits column (Text text) fit = refl
cell_fits column (Blob bytes) fit = (and_parts (takes_bytes (values_of column.kind) (length bytes)) (are_bytes bytes) (value_of_fit column (Blob bytes) refl fit)).1

-- Cells that fit their columns are those of replies.
cells_fit : (columns : List Column) (cells : List Cell) (at : ℕ) → length cells ≡ length columns → is_none (first_fault at columns cells) ≡ true → list_all is_cell cells ≡ true
cells_fit columns [] at many fit = refl
cells_fit [] (cell ∷ cells) at many fit = absurd (omega (arith, many))
cells_fit (column ∷ columns) (cell ∷ cells) at many fit =
    let f = first_fits (cell_fault at column cell) (first_fault (at + 1) columns cells) fit in
    and_from (is_cell cell) (list_all is_cell cells) (cell_fits column cell (sym (fault_at column cell at) ∙ f.0)) (cells_fit columns cells (at + 1) (omega (arith, many)) f.1)

-- Where a row has no fault, it has as many cells as it should, and its cells no fault.
arity_none : (b : Bool) (rest : Option RowFault) → is_none (if b then rest else Some Arity) ≡ true → (b ≡ true) × (is_none rest ≡ true)
arity_none true rest h = (refl, h)
arity_none false rest h = absurd cc

-- Cells of which there is one at least, all of them of replies, are a row of replies.
some_row : (row : List Cell) (n : ℕ) → length row ≡ n → 0 < n → list_all is_cell row ≡ true → is_row row ≡ true
some_row [] n many some all = absurd (omega (arith, many, some))
some_row (key ∷ cells) n many some all = all

-- a row that fits is one of replies
pub row_fits : (columns : List Column) (row : List Cell) → 0 < length columns → fits columns row ≡ true → is_row row ≡ true
row_fits columns row some fit =
    let a = arity_none (length row == length columns) (first_fault 0 columns row) fit in
    let many : length row ≡ length columns = eqb-true (length row) (length columns) a.0 in
    some_row row (length columns) many some (cells_fit columns row 0 many a.1)

-- A row with as many cells as it should have, and no fault in them, has no fault.
arity_from : (b : Bool) (rest : Option RowFault) → b ≡ true → is_none rest ≡ true → is_none (if b then rest else Some Arity) ≡ true
arity_from true rest h k = k
arity_from false rest h k = absurd (never h)

-- What an answer holds is the value that it was answered with.
of_ok : (r : Result (List Cell) Cause) (row : List Cell) → result_ok r ≡ Some row → r ≡ Ok row
of_ok (Ok cells) row h = let same : cells ≡ row = cc in ap Ok same
of_ok (Err cause) row h = absurd (let n : ⊥ = cc in n)

-- A row that is read of words spells them and fits, by whether there are as many as columns.
row_by : (columns : List Column) (words : List (List ℕ)) (row : List Cell) (b : Bool) → (length words == length columns) ≡ b → (if b then result_ok (cells_of columns words) else None) ≡ Some row
    → (cell_words row ≡ words) × (fits columns row ≡ true)
row_by columns words row true many h =
    let same : length words ≡ length columns = eqb-true (length words) (length columns) many in
    let read = cells_are columns words row (sym same) (of_ok (cells_of columns words) row h) in
    (read.text, arity_from (length row == length columns) (first_fault 0 columns row) (eq-eqb (length row) (length columns) read.many) (read.fit 0))
row_by columns words row false many h = absurd (let n : ⊥ = cc in n)

-- the row that words spell has them, and fits
pub row_of_is : (columns : List Column) (words : List (List ℕ)) (row : List Cell) → row_of columns words ≡ Some row → (cell_words row ≡ words) × (fits columns row ≡ true)
row_of_is columns words row h = row_by columns words row (length words == length columns) refl h

-- A row that is kept for its line was read, and has this line.
kept_line : (line : List ℕ) (o : Option (List Cell)) (row : List Cell) → option_and_then (λ r. if bytes_eq (row_line r ++ 10 ∷ []) line then Some r else None) o ≡ Some row → (o ≡ Some row) × (row_line row ++ 10 ∷ [] ≡ line)
kept_line line None row h = absurd (let n : ⊥ = cc in n)
kept_line line (Some r) row h = by (bytes_eq (row_line r ++ 10 ∷ []) line) refl h
  where
    by : (b : Bool) → bytes_eq (row_line r ++ 10 ∷ []) line ≡ b → (if b then Some r else None) ≡ Some row → (Some r ≡ Some row) × (row_line row ++ 10 ∷ [] ≡ line)
    by true is e =
        let same : r ≡ row = cc in
        (ap Some same, subst (λ (x : List Cell). row_line x ++ 10 ∷ [] ≡ line) same ((bytes_eq-Decides (row_line r ++ 10 ∷ []) line).0 is))
    by false is e = absurd (let n : ⊥ = cc in n)

-- the row of a line fits, and the line is its
pub row_at_is : (columns : List Column) (line : List ℕ) (row : List Cell) → row_at columns line ≡ Some row → (row_line row ++ 10 ∷ [] ≡ line) × (fits columns row ≡ true)
row_at_is columns line row h =
    let kept = kept_line line (row_of columns (drop 1 (words_in line))) row h in
    (kept.1, (row_of_is columns (drop 1 (words_in line)) row kept.0).1)

-- the row of its line
pub row_at_back : (columns : List Column) (row : List Cell) → fits columns row ≡ true → row_at columns (row_line row ++ 10 ∷ []) ≡ Some row
row_at_back columns row fit =
    let read = row_back columns row fit in
    let same : bytes_eq (row_line row ++ 10 ∷ []) (row_line row ++ 10 ∷ []) ≡ true = (bytes_eq-Decides (row_line row ++ 10 ∷ []) (row_line row ++ 10 ∷ [])).1 refl in
    ap (λ (words : List (List ℕ)). option_and_then (λ r. cond (bytes_eq (row_line r ++ 10 ∷ []) (row_line row ++ 10 ∷ [])) (Some r) None) (row_of columns (drop 1 words)))
    (words_of_line (codes "|") (cell_words row) (plain_word (codes "|") refl, read.words))
    ∙ ap (option_and_then (λ r. cond (bytes_eq (row_line r ++ 10 ∷ []) (row_line row ++ 10 ∷ [])) (Some r) None)) read.back
    ∙ ap (λ (b : Bool). cond b (Some row) None) same
