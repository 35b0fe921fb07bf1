use Rattle.std.proofs.Common.{List, ap, ◌∙◌, subst, refl}
use Rattle.flat_column.specs.Numbers.{Numbers}
use Rattle.cell_model.specs.declared.cell.Cell.{Cell}
use Rattle.cell_model.specs.declared.cell.Cell.TheVariants.{Null}
use Rattle.arrow_spec.specs.Arrays.{number_of, truth_of, value_of}
use Rattle.block_columns.specs.Cells.{Stores}
use Rattle.block_columns.specs.declared.store.Store.{Store}
use Rattle.block_columns.proofs.Lists.{values-set}
use Rattle.block_columns.proofs.Striped.{strips-clear}
use Rattle.block_columns.proofs.store.Store.clear.Goals as goal

pub returns-in-Numbers-clause-cleared : goal.returns-in-Numbers-clause-cleared
returns-in-Numbers-clause-cleared c =
    λ (cells : List Cell) h. ap (λ (f : Numbers). f.values) c.set.ensures
    ∙ values-set number_of _ cells c.args.at Null _ refl (subst (λ (s : Store). Stores s cells) c.in-Numbers.is h)

pub returns-in-Truths-clause-cleared : goal.returns-in-Truths-clause-cleared
returns-in-Truths-clause-cleared c =
    λ (cells : List Cell) h. c.set-in-Truths.ensures
    ∙ values-set truth_of _ cells c.args.at Null _ refl (subst (λ (s : Store). Stores s cells) c.in-Truths.is h)

pub returns-in-Values-clause-cleared : goal.returns-in-Values-clause-cleared
returns-in-Values-clause-cleared c =
    λ (cells : List Cell) h.
    values-set value_of _ cells c.args.at Null _ (c.replace.ensures.after ∙ c.empty.ensures) (subst (λ (s : Store). Stores s cells) c.in-Values.is h)

pub returns-in-Strips-clause-cleared : goal.returns-in-Strips-clause-cleared
returns-in-Strips-clause-cleared c =
    λ (cells : List Cell) h. strips-clear c.in-Strips.strips c.clear.new.self cells c.args.at c.clear.ensures (subst (λ (s : Store). Stores s cells) c.in-Strips.is h)
