use Rattle.std.proofs.Common.{◌≡◌, reverse, length}
use Rattle.std.specs.Prelude.{fold}
use Rattle.undo_chain.specs.Visible.{images_laid_back}
use Rattle.block_body.specs.Presence.{had_row}
use Rattle.block_body.proofs.view.is_row_visible.Given as goal

abbrev pub invariant-loop-newest : goal.invariant-loop-newest
invariant-loop-newest l =
    fold had_row l.had (images_laid_back (reverse l.older) l.stamp l.session)
    ≡ fold had_row l.initial.had (images_laid_back (reverse l.entries) l.stamp l.session)

abbrev pub decreases-loop-newest : goal.decreases-loop-newest
decreases-loop-newest l = length l.older
