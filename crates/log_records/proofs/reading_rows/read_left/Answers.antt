use Rattle.std.proofs.Common.{◌≡◌, ℕ, List, ◌∷◌, Err, sym, ◌∙◌, ap, subst}
use Rattle.log_spec.specs.LogText.{left_text}
use Rattle.log_records.specs.Front.{IsLeftAt, NoneInFront}
use Rattle.log_records.proofs.Exits.{form_met}
use Rattle.log_records.proofs.Writes.{left_refused}
use Rattle.log_records.proofs.reading_rows.read_left.Goals as goal

pub returns-in_err-read_row-in-Some-eq1-clause-form : goal.returns-in_err-read_row-in-Some-eq1-clause-form
returns-in_err-read_row-in-Some-eq1-clause-form c = λ form.
    let met = form_met c.from_residual.result c.in_err-read_row-in-Some-eq1.field-0.0 c.from_residual.ensures.1 form in
    let none = c.in_err-read_row-in-Some-eq1.ensures.form (ap Err met) in
    let one : c.in-Some-eq1.field-0 ≡ 1 = c.in-Some-eq1.field-0-test in
    subst (λ (l : List ℕ). NoneInFront (IsLeftAt c.args.columns.now c.args.place.now) left_text l)
    (ap (λ (n : ℕ). n ∷ c.byte.new.self) (sym one) ∙ sym c.in-Some-eq1.ensures.some)
    (left_refused c.args.columns.now c.args.place.now c.byte.new.self none)
