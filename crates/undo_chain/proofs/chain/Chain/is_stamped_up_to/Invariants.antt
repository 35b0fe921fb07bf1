use Rattle.std.proofs.Common.{take}
use Rattle.undo_chain.specs.Lawful.{NoneStampedAbove}
use Rattle.undo_chain.proofs.chain.Chain.is_stamped_up_to.Given as goal

abbrev pub invariant-loop-undo : goal.invariant-loop-undo
invariant-loop-undo g l = NoneStampedAbove (take l.undo-index l.undo-items) l.stamp
