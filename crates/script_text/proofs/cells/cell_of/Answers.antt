use Rattle.std.proofs.Common.{rules, ◌≡◌, ◌∙◌, true, ap, sym, None, Some, Option, Result, Ok, Err, ℕ, List, refl}
use Rattle.std.specs.Prelude.{option_and_then}
use Rattle.std.specs.Result.{is_ok}
use Rattle.cell_model.specs.Rows.{AnswersFault, cell_fault}
use Rattle.cell_model.specs.Kinds.{values_of}
use Rattle.cell_model.specs.declared.cell.Cell.{Cell}
use Rattle.cell_model.specs.declared.cell.Cell.TheVariants.{Null}
use Rattle.cell_model.specs.declared.column.Column.{Column}
use Rattle.cell_model.specs.declared.row.RowFault.{RowFault}
use Rattle.workload_spec.specs.declared.script.Cause.TheVariants as cause
use Rattle.workload_spec.specs.Reading.{cell_of}
use Rattle.workload_spec.specs.Grammar.{or_cause}
use Rattle.script_text.specs.Spellings.{standing, value_spelled}
use Rattle.script_text.proofs.Spelled.{cell_null, cell_value}
use Rattle.script_text.proofs.cells.cell_of.Goals as goal
use Rattle.script_text.proofs.cells.cell_of.Goals.{then-eq, else-eq+in_ok-spelled}

-- an answer without a fault tells that there is none
faultless : {A : Type 0} (answer : Result A RowFault) (fault : Option RowFault) → AnswersFault answer fault → is_ok answer ≡ true → fault ≡ None
faultless (Ok x) fault judged ok = judged
faultless (Err e) fault judged ok = absurd cc

-- a cell that is spelled and may stand in its column is the word's
read_as : (column : Column) (word : List ℕ) (spelled : Option Cell) (cell : Cell) → cell_of column word ≡ option_and_then (standing column) spelled → spelled ≡ Some cell → cell_fault 0 column cell ≡ None
    → or_cause cause.Cell (cell_of column word) ≡ Ok cell
read_as column word spelled cell of is fits = rw (of, is, fits) refl

pub returns-in-Some : goal.returns-in-Some
returns-in-Some c =
    let column = c.args.column.now in
    let word = c.args.word.now in
    let ok : is_ok c.check.result ≡ true = sym c.is_ok.ensures.value ∙ c.if-is_ok.true in
    let fits : cell_fault 0 column c.in-Some.cell ≡ None = faultless c.check.result (cell_fault 0 column c.in-Some.cell) c.check.ensures ok in
    elim c.if-eq.branch [
      | then-eq w ↦ let is : c.if-eq.spelled ≡ Some Null = search rules in
          read_as column word c.if-eq.spelled c.in-Some.cell (cell_null column word (search rules) ∙ ap (option_and_then (standing column)) (sym is)) c.in-Some.is fits
      | else-eq+in_ok-spelled w ↦ let is : c.if-eq.spelled ≡ value_spelled (values_of column.kind) word = search rules in
          read_as column word c.if-eq.spelled c.in-Some.cell (cell_value column word (search rules) ∙ ap (option_and_then (standing column)) (sym is)) c.in-Some.is fits
    ]
