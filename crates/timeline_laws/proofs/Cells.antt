-- A row that fits its columns is read back from the words of its cells.
use Rattle.std.proofs.Common.{◌≡◌, ℕ, ◌+◌, Bool, true, false, List, [], ◌∷◌, length, Some, refl, sym, ap, ◌∙◌, arith}
use Rattle.std.specs.Prelude.{◌==◌, Option, None, is_none, if◌then◌else◌, Result}
use Rattle.std.specs.Result.{result_ok}
use Rattle.std.specs.List.{list_all}
use Rattle.std.proofs.lemmas.Bool.{and_parts, and_from, eqb-true, eq-eqb}
use Rattle.std.proofs.lemmas.List.{length-map}
use Rattle.cell_model.specs.declared.cell.Cell.{Cell}
use Rattle.cell_model.specs.declared.cell.Cell.TheVariants.{Null, Num, Truth, Text, Blob}
use Rattle.cell_model.specs.declared.column.Column.{Column}
use Rattle.cell_model.specs.declared.row.RowFault.{RowFault}
use Rattle.cell_model.specs.declared.row.RowFault.TheVariants.{Arity}
use Rattle.cell_model.specs.Rows.{cell_fault, first_fault, fits}
use Rattle.cell_model.specs.Kinds.{values_of, takes_bytes}
use Rattle.cell_model.specs.Values.{are_bytes}
use Rattle.workload_spec.specs.Words.{cell_text, cell_words}
use Rattle.workload_spec.specs.Grammar.{cells_of}
use Rattle.workload_spec.specs.declared.script.Cause.{Cause}
use Rattle.workload_laws.specs.Bytes.{has_only_bytes}
use Rattle.workload_laws.proofs.Apart.{AreWords}
use Rattle.workload_laws.proofs.Cells.{fault_at}
use Rattle.workload_laws.proofs.CellsBack.{cells_back, value_of_fit, first_fits}
use Rattle.outcome_spec.specs.Reading.{row_of}

-- a row that fits has a cell for each column, and each of these fits its column
arity_none : (b : Bool) (rest : Option RowFault) → is_none (if b then rest else Some Arity) ≡ true → (b ≡ true) × (is_none rest ≡ true)
arity_none true rest h = (refl, h)
arity_none false rest h = absurd cc

-- A cell that fits its column has only bytes.
bytes_of : (column : Column) (cell : Cell) → is_none (cell_fault 0 column cell) ≡ true → has_only_bytes cell ≡ true
bytes_of column Null fit = refl
bytes_of column (Num z) fit = refl
bytes_of column (Truth truth) fit = refl
bytes_of column (Text text) fit = refl
bytes_of column (Blob bytes) fit = (and_parts (takes_bytes (values_of column.kind) (length bytes)) (are_bytes bytes) (value_of_fit column (Blob bytes) refl fit)).1

-- Cells that each fit their columns have only bytes.
all_bytes : (columns : List Column) (cells : List Cell) (at : ℕ) → length cells ≡ length columns → is_none (first_fault at columns cells) ≡ true → list_all has_only_bytes cells ≡ true
all_bytes columns [] at many fit = refl
all_bytes [] (cell ∷ cells) at many fit = absurd (omega (arith, many))
all_bytes (column ∷ columns) (cell ∷ cells) at many fit =
    let f = first_fits (cell_fault at column cell) (first_fault (at + 1) columns cells) fit in
    and_from (has_only_bytes cell) (list_all has_only_bytes cells) (bytes_of column cell (sym (fault_at column cell at) ∙ f.0)) (all_bytes columns cells (at + 1) (omega (arith, many)) f.1)

-- The row is one of the columns: its cells are words, and are read back.
pub record ReadsBack (columns : List Column) (row : List Cell) : Type 0 where
  pub words : AreWords (cell_words row)
  pub back : row_of columns (cell_words row) ≡ Some row

-- A choice whose test holds gives what is chosen.
chosen : (b : Bool) (o : Option (List Cell)) → b ≡ true → (if b then o else None) ≡ o
chosen true o h = refl
chosen false o h = absurd cc

-- A row that fits its columns is read back from its words.
pub row_back : (columns : List Column) (row : List Cell) → fits columns row ≡ true → ReadsBack columns row
row_back columns row fit =
    let a = arity_none (length row == length columns) (first_fault 0 columns row) fit in
    let many : length row ≡ length columns = eqb-true (length row) (length columns) a.0 in
    let read = cells_back columns row 0 many a.1 (all_bytes columns row 0 many a.1) in
    let words_many : (length (cell_words row) == length columns) ≡ true = eq-eqb (length (cell_words row)) (length columns) (length-map row cell_text ∙ many) in
    record {
      words = read.words;
      back = chosen (length (cell_words row) == length columns) (result_ok (cells_of columns (cell_words row))) words_many
          ∙ ap (λ (r : Result (List Cell) Cause). result_ok r) read.back;
    }
