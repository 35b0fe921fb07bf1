use Rattle.std.proofs.Common.{◌∙◌, Bool, List, reverse, ap, sym}
use Rattle.std.specs.Prelude.{fold}
use Rattle.undo_chain.specs.Visible.{images_laid_back}
use Rattle.undo_chain.specs.declared.undo.Undo.{Undo}
use Rattle.undo_chain.proofs.Ends.{reverse-last}
use Rattle.undo_chain.proofs.Views.{images_passed}
use Rattle.block_spec.specs.declared.change.Before.{Before}
use Rattle.block_body.specs.Presence.{had_row}
use Rattle.block_body.proofs.view.is_row_visible.Goals as goal

pub loop-newest-preserved : goal.loop-newest-preserved
loop-newest-preserved c =
    let turned = reverse-last c.loop-newest.older.now c.in-Some.rest.now c.in-Some.newest.now c.in-Some.ensures.cases.0 in
    ap (λ (b : Bool). fold had_row b (images_laid_back (reverse c.in-Some.rest.now) c.args.stamp c.args.session)) c.had_row-had.ensures
    ∙ ap (λ (l : List Before). fold had_row c.loop-newest.had l)
    (sym (ap (λ (l : List (Undo Before)). images_laid_back l c.args.stamp c.args.session) turned
    ∙ images_passed c.in-Some.newest.now (reverse c.in-Some.rest.now) c.args.stamp c.args.session (sym c.is_in_view.ensures ∙ c.if-not-is_in_view.true)))
    ∙ c.loop-newest.invariant
