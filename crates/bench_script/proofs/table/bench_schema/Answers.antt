use Rattle.std.proofs.Common.{◌≡◌, ◌++◌, ◌∷◌, [], List, sym, subst, ap₂, ◌∙◌}
use Rattle.cell_model.specs.Schemas.{AreNamed}
use Rattle.cell_model.specs.declared.column.Column.{Column}
use Rattle.bench_script.proofs.Columns.{columns_named, key, number, text}
use Rattle.bench_script.proofs.table.bench_schema.Goals as goal

pub new-requires : goal.new-requires
new-requires c =
    let one : c.push.new.self.items ≡ key ∷ [] = c.in_ok-push.ensures.items ∙ ap₂ (λ (l : List Column) (x : Column). l ++ x ∷ []) c.new-columns.ensures.items c.in_ok-column.ensures in
    let two : c.push-2.new.self.items ≡ key ∷ number ∷ [] = c.in_ok-push-2.ensures.items ∙ ap₂ (λ (l : List Column) (x : Column). l ++ x ∷ []) one c.in_ok-column-2.ensures in
    let three : c.push-3.new.self.items ≡ key ∷ number ∷ text ∷ [] = c.in_ok-push-3.ensures.items ∙ ap₂ (λ (l : List Column) (x : Column). l ++ x ∷ []) two c.in_ok-column-3.ensures in
    subst (λ (columns : List Column). AreNamed columns) (sym three) columns_named
