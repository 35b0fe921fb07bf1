use Rattle.std.proofs.Common.{List, ap, ◌∙◌, subst}
use Rattle.std.proofs.lemmas.Result.{on_ok_weaker}
use Rattle.flat_column.specs.Numbers.{Numbers}
use Rattle.cell_model.specs.declared.cell.Cell.{Cell}
use Rattle.arrow_spec.specs.Arrays.{number_of, truth_of, value_of}
use Rattle.block_columns.specs.Cells.{Stores}
use Rattle.block_columns.specs.declared.store.Store.{Store}
use Rattle.block_columns.proofs.Lists.{values-extend}
use Rattle.block_columns.proofs.Striped.{strips-extend}
use Rattle.block_columns.proofs.store.Store.extend.Goals as goal

pub returns-in-Numbers-clause-ok : goal.returns-in-Numbers-clause-ok
returns-in-Numbers-clause-ok c =
    on_ok_weaker c.extend.result
    (λ e. λ (cells : List Cell) h. ap (λ (f : Numbers). f.values) e ∙ values-extend number_of _ cells c.args.n (subst (λ (s : Store). Stores s cells) c.in-Numbers.is h))
    c.extend.ensures.ok

pub returns-in-Truths-clause-ok : goal.returns-in-Truths-clause-ok
returns-in-Truths-clause-ok c =
    on_ok_weaker c.extend-in-Truths.result
    (λ e. λ (cells : List Cell) h. e ∙ values-extend truth_of _ cells c.args.n (subst (λ (s : Store). Stores s cells) c.in-Truths.is h))
    c.extend-in-Truths.ensures.ok

pub returns-in-Values-clause-ok : goal.returns-in-Values-clause-ok
returns-in-Values-clause-ok c =
    on_ok_weaker c.add_empty.result
    (λ e. λ (cells : List Cell) h. e ∙ values-extend value_of _ cells c.args.n (subst (λ (s : Store). Stores s cells) c.in-Values.is h))
    c.add_empty.ensures.ok

pub returns-in-Strips-clause-ok : goal.returns-in-Strips-clause-ok
returns-in-Strips-clause-ok c =
    on_ok_weaker c.extend-in-Strips.result
    (λ e. λ (cells : List Cell) h. strips-extend c.in-Strips.strips c.extend-in-Strips.new.self cells c.args.n e (subst (λ (s : Store). Stores s cells) c.in-Strips.is h))
    c.extend-in-Strips.ensures.ok
