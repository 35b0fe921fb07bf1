use Rattle.std.proofs.Common.{w32}
use Rattle.lane_filter.proofs.Choosing.{ones_are}
use Rattle.lane_filter.proofs.bits32.ones_within.Goals as goal

pub returns : goal.returns
returns c = ones_are w32 8 c.args.span c.args.offsets c.requires
