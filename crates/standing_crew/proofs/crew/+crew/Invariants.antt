use Rattle.std.proofs.Common.{◌+◌, ◌*◌, length}
use Rattle.standing_crew.proofs.crew.+crew.Given as goal

abbrev pub decreases-stand_at : goal.decreases-stand_at
decreases-stand_at g l = 2 * length l.helpers.now

abbrev pub decreases-inner : goal.decreases-inner
decreases-inner g l = 2 * length l.others.now + 1
