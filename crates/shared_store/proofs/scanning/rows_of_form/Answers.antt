use Rattle.std.proofs.Common.{◌≡◌, length, ap, ◌∙◌, arith}
use Rattle.core_parts.specs.Fronts.{rows_of_form}
use Rattle.core_parts.specs.declared.read_rows.ReadForm.{ReadForm}
use Rattle.shared_store.proofs.Counted.{first_rows}
use Rattle.shared_store.proofs.scanning.rows_of_form.Goals as goal

pub returns-in-Columns-clause-steps : goal.returns-in-Columns-clause-steps
returns-in-Columns-clause-steps g c =
    let counted : length (rows_of_form c.args.form) ≡ c.in-Columns.front.rows =
    ap (λ (f : ReadForm). length (rows_of_form f)) c.in-Columns.is ∙ first_rows c.in-Columns.front.rows c.in-Columns.front.slots c.columns.ensures.filled.held in
    let rows = c.rows.ensures in
    let steps = c.rows_of_columns.ensures.steps in
    omega (arith, counted, rows, steps)
