use Rattle.std.proofs.Common.{◌≡◌, sym, ◌∙◌, ap, None}
use Rattle.cell_model.specs.Rows.{cell_fault}
use Rattle.cell_model.specs.declared.cell.Cell.{Cell}
use Rattle.log_spec.proofs.Fronts.{cell_front}
use Rattle.log_records.proofs.reading_cells.read_cell.Goals as goal

pub returns-in-Err-clause-form : goal.returns-in-Err-clause-form
returns-in-Err-clause-form c = λ _ item rest is same.
    let read = c.in_ok-cell.ensures.cell in
    let found = cell_front item c.in_ok-cell.cell rest _ is.told read.one (sym same ∙ read.printed) in
    let fault = c.in-Err.ensures in
    let none : cell_fault 0 c.args.column.now c.in_ok-cell.cell ≡ None = ap (λ (x : Cell). cell_fault 0 c.args.column.now x) (sym found.0) ∙ is.fits in
    cc
