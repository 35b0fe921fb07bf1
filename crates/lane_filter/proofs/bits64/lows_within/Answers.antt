use Rattle.lane_filter.specs.Lanes.{kept_within}
use Rattle.lane_filter.proofs.Choosing.{lows_are}
use Rattle.lane_filter.proofs.bits64.lows_within.Goals as goal

pub returns : goal.returns
returns c = lows_are 4 (kept_within c.args.span) c.args.offsets c.kept_within.result c.requires c.kept_within.ensures
