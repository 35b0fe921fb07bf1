use Rattle.std.proofs.Common.{◌≡◌, reverse, length}
use Rattle.std.specs.Prelude.{fold}
use Rattle.undo_chain.specs.Visible.{images_laid_back}
use Rattle.block_spec.specs.Slots.{laid_back}
use Rattle.block_body.proofs.view.visible_row.Given as goal

abbrev pub invariant-loop-newest : goal.invariant-loop-newest
invariant-loop-newest l =
    fold laid_back l.seen (images_laid_back (reverse l.older) l.stamp l.session)
    ≡ fold laid_back l.initial.seen (images_laid_back (reverse l.entries) l.stamp l.session)

abbrev pub decreases-loop-newest : goal.decreases-loop-newest
decreases-loop-newest l = length l.older
