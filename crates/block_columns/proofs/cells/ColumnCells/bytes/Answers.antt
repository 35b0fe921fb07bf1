use Rattle.std.proofs.Common.{ℕ, ◌≤◌, List, length, get_or, ap, ◌∙◌, sym, subst}
use Rattle.cell_model.specs.declared.cell.Cell.TheVariants.{Null}
use Rattle.cell_model.specs.Kinds.{values_of}
use Rattle.cell_model.specs.Values.{most_bytes_of}
use Rattle.block_columns.specs.Cells.{ColumnValue, own_bytes}
use Rattle.block_columns.proofs.Kept.{keeps-bytes, keeps-short}
use Rattle.block_columns.proofs.cells.ColumnCells.bytes.Goals as goal

pub returns-clause-value : goal.returns-clause-value
returns-clause-value c =
    c.bytes.ensures ∙ keeps-bytes _ _ _ _ c.args.at c.self.invariant
    ∙ ap (λ (v : ColumnValue). own_bytes (values_of v.column.kind) (get_or v.cells c.args.at Null)) c.self.view_is

pub returns-clause-short : goal.returns-clause-short
returns-clause-short c =
    subst (λ (v : ColumnValue). length c.bytes.result.now ≤ most_bytes_of v.column.kind) c.self.view_is
    (subst (λ (bytes : List ℕ). length bytes ≤ most_bytes_of c.self.inside.kind) (sym c.bytes.ensures) (keeps-short _ _ _ _ c.args.at c.self.invariant))
