use Rattle.std.proofs.Common.{◌≤◌, ◌∙◌, get_or, length, subst, ℕ}
use Rattle.cell_model.specs.declared.cell.Cell.TheVariants.{Null}
use Rattle.cell_model.specs.Kinds.{values_of}
use Rattle.gather_core.proofs.AnyLength.{any_length}
use Rattle.gather_core.proofs.values.value_at.Goals as goal

pub returns-clause-value : goal.returns-clause-value
returns-clause-value c =
    c.bytes.ensures.value ∙ (any_length (values_of c.args.column.now.column.kind) c.args.width c.requires.layout).0 (get_or c.args.column.now.cells c.args.at Null)

pub returns-clause-short : goal.returns-clause-short
returns-clause-short c =
    subst (λ (most : ℕ). length c.bytes.result.now ≤ most) (any_length (values_of c.args.column.now.column.kind) c.args.width c.requires.layout).1 c.bytes.ensures.short
