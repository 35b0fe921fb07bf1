use Rattle.std.proofs.Common.{List, ℤ, ap, ◌∙◌, subst}
use Rattle.std.specs.Prelude.{slice_set}
use Rattle.flat_column.specs.Numbers.{Numbers}
use Rattle.cell_model.specs.declared.cell.Cell.{Cell}
use Rattle.arrow_spec.specs.Arrays.{number_of, truth_of, value_of}
use Rattle.block_columns.specs.Cells.{IsStoreOf, Stores}
use Rattle.block_columns.specs.declared.store.Store.{Store}
use Rattle.block_columns.proofs.Kept.{slot_small, strip_fits}
use Rattle.block_columns.proofs.Lists.{values-set, fits_back}
use Rattle.block_columns.proofs.Striped.{strips-set}
use Rattle.block_columns.proofs.store.Store.lay.Goals as goal

pub returns-in-Numbers-clause-laid : goal.returns-in-Numbers-clause-laid
returns-in-Numbers-clause-laid c =
    λ (cells : List Cell) h. ap (λ (f : Numbers). f.values) c.set.ensures
    ∙ ap (λ (z : ℤ). slice_set c.in-Numbers.numbers.values c.args.at z) (fits_back c.number_of.result c.number_of.type_inv)
    ∙ values-set number_of _ cells c.args.at c.args.value _ c.number_of.ensures (subst (λ (s : Store). Stores s cells) c.in-Numbers.is h)

pub returns-in-Truths-clause-laid : goal.returns-in-Truths-clause-laid
returns-in-Truths-clause-laid c =
    λ (cells : List Cell) h. c.set-in-Truths.ensures
    ∙ values-set truth_of _ cells c.args.at c.args.value _ c.truth_of.ensures (subst (λ (s : Store). Stores s cells) c.in-Truths.is h)

pub returns-in-Values-clause-laid : goal.returns-in-Values-clause-laid
returns-in-Values-clause-laid c =
    λ (cells : List Cell) h.
    values-set value_of _ cells c.args.at c.args.value _ c.owned_value.ensures (subst (λ (s : Store). Stores s cells) c.in-Values.is h)

pub owned_value-requires : goal.owned_value-requires
owned_value-requires c = slot_small c.args.kind c.args.value (subst (λ (s : Store). IsStoreOf c.args.kind s) c.in-Values.is c.requires.known) c.requires.slot

pub lay_strip-requires-clause-width : goal.lay_strip-requires-clause-width
lay_strip-requires-clause-width c =
    strip_fits c.args.kind c.in-Strips.strips.width c.args.value (subst (λ (s : Store). IsStoreOf c.args.kind s) c.in-Strips.is c.requires.known) c.requires.slot

pub returns-in-Strips-clause-laid : goal.returns-in-Strips-clause-laid
returns-in-Strips-clause-laid c =
    λ (cells : List Cell) h.
    strips-set c.in-Strips.strips c.lay_strip.new.strips cells c.args.at c.args.value c.lay_strip.ensures (subst (λ (s : Store). Stores s cells) c.in-Strips.is h)
