use Rattle.std.proofs.Common.{length}
use Rattle.store_rounds.proofs.group.+take_from_all.Given as goal

abbrev pub decreases-take_from_all : goal.decreases-take_from_all
decreases-take_from_all l = length l.row.now
