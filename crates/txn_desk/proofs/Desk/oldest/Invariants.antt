use Rattle.std.proofs.Common.{◌≡◌, min, take}
use Rattle.std.specs.Prelude.{fold}
use Rattle.txn_desk.specs.Oldest.{open_starts}
use Rattle.txn_desk.proofs.Desk.oldest.Given as goal

abbrev pub invariant-loop-open : goal.invariant-loop-open
invariant-loop-open l = l.oldest ≡ fold min l.self.newest (open_starts (take l.open-index l.open-items))
