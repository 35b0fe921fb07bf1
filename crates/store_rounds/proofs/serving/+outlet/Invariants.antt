use Rattle.std.proofs.Common.{◌+◌, ◌*◌, length}
use Rattle.store_rounds.proofs.serving.+outlet.Given as goal

abbrev pub decreases-serve_row : goal.decreases-serve_row
decreases-serve_row g l = 2 * length l.row.now

abbrev pub decreases-serve_first : goal.decreases-serve_first
decreases-serve_first g l = 2 * length l.others.now + 1
