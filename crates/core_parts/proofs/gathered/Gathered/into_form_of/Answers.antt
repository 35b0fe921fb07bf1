use Rattle.std.proofs.Common.{◌∙◌, List, sym, subst}
use Rattle.block_columns.specs.Images.{IsFormOf, image_with, rows_of}
use Rattle.block_spec.specs.Slots.{Row}
use Rattle.core_parts.proofs.SameKinds.{same_form}
use Rattle.core_parts.proofs.gathered.Gathered.into_form_of.Goals as goal

pub returns-then-are_of_kinds : goal.returns-then-are_of_kinds
returns-then-are_of_kinds c =
    let i = c.self.inside in
    subst (λ (rows : List Row). IsFormOf c.args.columns.now.columns rows i.form) c.self.view_is
    (same_form i.columns.value.columns c.args.columns.now.columns (rows_of (image_with i.columns.value i.rows i.form)) i.form
    (sym c.self.invariant.kinds ∙ sym c.as_slice.ensures.value ∙ c.are_of_kinds.ensures.0 c.if-are_of_kinds.true) c.self.invariant.whole.form)
