use Rattle.std.proofs.Common.{◌≡◌, ◌++◌, take, map, ap, ◌∙◌, sym, subst}
use Rattle.std.proofs.lemmas.Result.{on_ok_weaker}
use Rattle.arrow_spec.specs.Arrays.{boolean, layout_of, truth_of}
use Rattle.arrow_spec.specs.Bytes.{bitmap}
use Rattle.block_columns.specs.Cells.{ColumnValue, cells_in}
use Rattle.block_columns.proofs.cells.ColumnCells.copy_truths.Goals as goal

pub returns : goal.returns
returns c = on_ok_weaker c.copy_truths.result
    (λ e. λ same.
    e c.self.inside.kind (cells_in c.self.inside.kind c.self.inside.valid c.self.inside.store) c.self.invariant.known c.self.invariant.stored
    (subst (λ (v : ColumnValue). layout_of v.column.kind ≡ boolean) (sym c.self.view_is) same)
    ∙ ap (λ (v : ColumnValue). c.args.out.now.items ++ bitmap (map truth_of (take c.args.n v.cells))) c.self.view_is)
    c.copy_truths.ensures
