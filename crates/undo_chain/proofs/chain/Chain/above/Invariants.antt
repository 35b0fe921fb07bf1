use Rattle.std.proofs.Common.{◌≡◌, reverse, length}
use Rattle.undo_chain.specs.Conflict.{numbers_above, largest}
use Rattle.undo_chain.specs.Lawful.{IsLawful}
use Rattle.undo_chain.proofs.Numbers.{largest_with}
use Rattle.undo_chain.proofs.chain.Chain.above.Given as goal

abbrev pub invariant-loop-newest : goal.invariant-loop-newest
invariant-loop-newest g l =
    IsLawful (reverse l.older)
    × (largest_with l.number (numbers_above (reverse l.older) l.stamp) ≡ largest (numbers_above l.self.entries l.stamp))

abbrev pub decreases-loop-newest : goal.decreases-loop-newest
decreases-loop-newest g l = length l.older
