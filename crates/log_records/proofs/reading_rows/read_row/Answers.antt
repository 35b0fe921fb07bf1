use Rattle.std.proofs.Common.{◌≡◌, ℕ, ◌+◌, List, [], ◌∷◌, ◌++◌, ℤ, length, Err, sym, ◌∙◌, ap, subst, rules, arith}
use Rattle.std.specs.Prelude.{FitsSigned}
use Rattle.std.specs.Int.{w64, w128, cast_signed, cast_unsigned}
use Rattle.cell_model.specs.declared.cell.Cell.{Cell}
use Rattle.cell_model.specs.declared.cell.Cell.TheVariants.{Num}
use Rattle.cell_model.specs.declared.column.Column.{Column}
use Rattle.log_spec.specs.LogText.{cell_text}
use Rattle.log_records.specs.Front.{IsCellOf, IsRowAt, NoneInFront, Takes, attributes_text}
use Rattle.log_records.proofs.Rows.{RowSoFar, row_all, row_more, row_none, row_refused, widened}
use Rattle.log_records.proofs.Exits.{form_met}
use Rattle.log_records.proofs.reading_rows.read_row.Goals as goal

pub loop-column-init : goal.loop-column-init
loop-column-init c =
    let key = c.args.place.now.key in
    let fits : FitsSigned w64 key = search rules in
    let items : c.push.new.self.items ≡ Num key ∷ [] =
    c.in_ok-push.ensures.items ∙ ap (λ (l : List Cell). l ++ Num (cast_signed w128 (cast_unsigned w128 (cast_signed w64 (cast_unsigned w64 key)))) ∷ []) c.in_ok-cells.ensures.items ∙ ap (λ (n : ℤ). Num n ∷ []) (widened key fits) in
    subst (λ (l : List Cell). RowSoFar c.split_at.result.1.now 0 key l c.args.reader.now c.args.reader.now) (sym items)
    (row_none c.split_at.result.1.now key c.args.reader.now)

pub returns-in_err-cell-clause-form : goal.returns-in_err-cell-clause-form
returns-in_err-cell-clause-form c = λ form.
    let met = form_met c.from_residual-in_err-cell.result c.in_err-cell.field-0.0 c.from_residual-in_err-cell.ensures.1 form in
    let none = subst (λ (x : Column). NoneInFront (IsCellOf x) cell_text c.loop-column.reader) c.column-item.is (c.in_err-cell.ensures.form (ap Err met)) in
    row_refused c.args.columns.now c.split_at.result.1.now c.loop-column.column-index c.args.place.now c.loop-column.cells.items c.args.reader.now c.loop-column.reader
    c.column-item.result c.split_at.ensures.back c.loop-column.invariant c.loop-column-test.true none

pub loop-column-preserved : goal.loop-column-preserved
loop-column-preserved c =
    let takes = subst (λ (x : Column). Takes (IsCellOf x) cell_text c.loop-column.reader c.read_cell.new.reader c.in_ok-cell.cell) c.column-item.is c.in_ok-cell.ensures.cell in
    subst (λ (l : List Cell). RowSoFar c.split_at.result.1.now (c.loop-column.column-index + 1) c.args.place.now.key l c.args.reader.now c.read_cell.new.reader)
    (sym c.in_ok-push-2.ensures.items)
    (row_more c.split_at.result.1.now c.loop-column.column-index c.args.place.now.key c.loop-column.cells.items c.args.reader.now c.loop-column.reader c.read_cell.new.reader
    c.column-item.result c.in_ok-cell.cell c.loop-column.invariant c.loop-column-test.true takes)

pub returns-clause-row : goal.returns-clause-row
returns-clause-row c =
    let fits : FitsSigned w64 c.args.place.now.key = search rules in
    let all : c.loop-column.column-index ≡ length c.split_at.result.1.now =
    (let end = c.loop-column-test.false in let within = c.loop-column.auto.column-index-end in omega (arith, end, within)) in
    let whole = row_all c.args.columns.now c.split_at.result.1.now c.args.place.now c.loop-column.cells.items c.args.reader.now c.loop-column.reader c.requires c.split_at.ensures.back fits
    (subst (λ (n : ℕ). RowSoFar c.split_at.result.1.now n c.args.place.now.key c.loop-column.cells.items c.args.reader.now c.loop-column.reader) all c.loop-column.invariant) in
    subst (λ (l : List Cell). Takes (IsRowAt c.args.columns.now c.args.place.now) attributes_text c.args.reader.now c.loop-column.reader l) (sym c.from.ensures) whole
