use Rattle.std.proofs.Common.{Bool, List, ◌++◌, take, ap, ◌∙◌, subst}
use Rattle.std.proofs.lemmas.List.{take-map}
use Rattle.std.proofs.lemmas.Result.{on_ok_weaker}
use Rattle.cell_model.specs.declared.cell.Cell.{Cell}
use Rattle.cell_model.specs.declared.kind.Kind.{Kind}
use Rattle.arrow_spec.specs.Arrays.{truth_of}
use Rattle.arrow_spec.specs.Bytes.{bitmap}
use Rattle.block_columns.specs.declared.store.Store.{Store}
use Rattle.block_columns.specs.Cells.{Stores}
use Rattle.block_columns.proofs.store.Store.copy_truths.Goals as goal

pub returns-in-Truths : goal.returns-in-Truths
returns-in-Truths c = on_ok_weaker c.copy_to.result
    (λ e. λ (kind : Kind) (cells : List Cell) known stored same.
    e ∙ ap (λ (xs : List Bool). c.args.out.now.items ++ bitmap (take c.args.n xs)) (subst (λ (s : Store). Stores s cells) c.in-Truths.is stored)
    ∙ ap (λ (xs : List Bool). c.args.out.now.items ++ bitmap xs) (take-map truth_of c.args.n cells))
    c.copy_to.ensures.ok
