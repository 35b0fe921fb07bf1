use Rattle.std.proofs.Common.{Bool, List, ◌++◌, take, map, ap, ◌∙◌}
use Rattle.std.proofs.lemmas.List.{take-map}
use Rattle.std.proofs.lemmas.Result.{on_ok_weaker}
use Rattle.arrow_spec.specs.Bytes.{bitmap}
use Rattle.block_columns.specs.Cells.{ColumnValue, cells_in, valid_bit}
use Rattle.block_columns.proofs.cells.ColumnCells.copy_validity.Goals as goal

pub returns-clause-ok : goal.returns-clause-ok
returns-clause-ok c = on_ok_weaker c.copy_to.result
    (λ e. e ∙ ap (λ (xs : List Bool). c.args.out.now.items ++ bitmap (take c.args.n xs)) c.self.invariant.bits
    ∙ ap (λ (xs : List Bool). c.args.out.now.items ++ bitmap xs) (take-map valid_bit c.args.n (cells_in c.self.inside.kind c.self.inside.valid c.self.inside.store))
    ∙ ap (λ (v : ColumnValue). c.args.out.now.items ++ bitmap (map valid_bit (take c.args.n v.cells))) c.self.view_is)
    c.copy_to.ensures.ok
