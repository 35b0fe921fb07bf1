use Rattle.std.proofs.Common.{◌≡◌, ◌+◌, reverse, length}
use Rattle.undo_chain.specs.Visible.{images_laid_back}
use Rattle.undo_chain.proofs.chain.Chain.passed.Given as goal

abbrev pub invariant-loop-newest : goal.invariant-loop-newest
invariant-loop-newest g l =
    (l.passed + length l.older ≡ length l.self.entries)
    × (l.passed + length (images_laid_back (reverse l.older) l.stamp l.session)
    ≡ length (images_laid_back l.self.entries l.stamp l.session))

abbrev pub decreases-loop-newest : goal.decreases-loop-newest
decreases-loop-newest g l = length l.older
