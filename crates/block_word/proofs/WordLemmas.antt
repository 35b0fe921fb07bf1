-- What crates above cite of the numbers of words.
use Rattle.std.proofs.Common.{◌-◌}
