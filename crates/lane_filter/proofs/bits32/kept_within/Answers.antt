use Rattle.std.proofs.Common.{◌∙◌, w32}
use Rattle.lane_filter.proofs.Choosing.{kept_are, map_same}
use Rattle.lane_filter.proofs.bits32.kept_within.Goals as goal

pub returns : goal.returns
returns c = map_same _ ∙ kept_are w32 8 c.args.span c.args.offsets c.requires
