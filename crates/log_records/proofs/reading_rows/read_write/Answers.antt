use Rattle.std.proofs.Common.{ℕ, ℤ, List, ◌∷◌, Err, Some, sym, ◌∙◌, ap, subst, rules}
use Rattle.std.specs.Prelude.{FitsSigned}
use Rattle.std.specs.Int.{w64}
use Rattle.std.proofs.lemmas.Int.{to_z-of_z}
use Rattle.std.proofs.lemmas.Option.{slice_get-get_or}
use Rattle.cell_model.specs.declared.column.Column.{Column}
use Rattle.cell_model.specs.declared.table.TableDecl.{TableDecl}
use Rattle.cell_model.specs.Schemas.{IsSchema}
use Rattle.isolation_spec.specs.Contents.{place_at}
use Rattle.log_spec.specs.LogText.{left_text, write_text}
use Rattle.log_spec.specs.Told.{IsKeyedWrite}
use Rattle.log_records.specs.Front.{IsLeftAt, NoneInFront, Takes}
use Rattle.log_records.proofs.Exits.{form_met}
use Rattle.log_records.proofs.Writes.{PlaceSoFar, write_refused, write_takes}
use Rattle.log_records.proofs.reading_rows.read_write.Goals as goal
use Rattle.log_records.proofs.reading_rows.read_write.Goals.{In-Some-get}

-- the table and the key were read
read : (c : In-Some-get) → IsSchema c.in-Some-get.table.now.schema → PlaceSoFar c.args.tables.now c.in-Some.number c.in-Some-key.key c.in-Some-get.table.now c.args.reader.now c.key.new.self
read c schema =
    let lookup = c.in-Some-get.ensures.lookup in record {
      byte = search rules;
      bits = search rules;
      there = slice_get-get_or c.args.tables.now c.in-Some.number c.in-Some-get.table.now lookup.3.0 ∙ ap (λ (t : TableDecl). Some t) (sym lookup.1);
      schema = schema;
      is = c.in-Some.ensures.some ∙ ap (λ (l : List ℕ). c.in-Some.number ∷ l) c.in-Some-key.ensures.some;
    }

pub returns-in_err-left-clause-form : goal.returns-in_err-left-clause-form
returns-in_err-left-clause-form c = λ form.
    let at' = (goal.at.returns-in_err-left-clause-form c).In-Some-get in
    let met = form_met c.from_residual.result c.in_err-left.field-0.0 c.from_residual.ensures.1 form in
    let fits : FitsSigned w64 c.in-Some-key.key = search rules in
    let none = subst (λ (k : ℤ). NoneInFront (IsLeftAt c.columns.result.now (place_at c.in-Some.number k)) left_text c.key.new.self) (to_z-of_z w64 c.in-Some-key.key fits)
    (c.in_err-left.ensures.form (ap Err met)) in
    write_refused c.args.tables.now c.in-Some.number c.in-Some-key.key c.in-Some-get.table.now c.args.reader.now c.key.new.self c.requires (read at' c.columns.ensures.schema)
    (subst (λ (l : List Column). NoneInFront (IsLeftAt l (place_at c.in-Some.number c.in-Some-key.key)) left_text c.key.new.self) c.columns.ensures.columns none)

pub returns-clause-write : goal.returns-clause-write
returns-clause-write c =
    let at' = (goal.at.returns-clause-write c).In-Some-get in
    let fits : FitsSigned w64 c.in-Some-key.key = search rules in
    let same = to_z-of_z w64 c.in-Some-key.key fits in
    let left = subst (λ (k : ℤ). Takes (IsLeftAt c.columns.result.now (place_at c.in-Some.number k)) left_text c.key.new.self c.read_left.new.reader c.in_ok-left.left) same c.in_ok-left.ensures.left in
    subst (λ (k : ℤ). Takes (IsKeyedWrite c.args.tables.now) write_text c.args.reader.now c.read_left.new.reader (place_at c.in-Some.number k, c.in_ok-left.left)) (sym same)
    (write_takes c.args.tables.now c.in-Some.number c.in-Some-key.key c.in-Some-get.table.now c.in_ok-left.left c.args.reader.now c.key.new.self c.read_left.new.reader (read at' c.columns.ensures.schema)
    (subst (λ (l : List Column). Takes (IsLeftAt l (place_at c.in-Some.number c.in-Some-key.key)) left_text c.key.new.self c.read_left.new.reader c.in_ok-left.left) c.columns.ensures.columns left))
