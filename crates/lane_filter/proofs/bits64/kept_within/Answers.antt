use Rattle.std.proofs.Common.{w64}
use Rattle.lane_filter.proofs.Choosing.{kept_are}
use Rattle.lane_filter.proofs.bits64.kept_within.Goals as goal

pub returns : goal.returns
returns c = kept_are w64 4 c.args.span c.args.offsets c.requires
