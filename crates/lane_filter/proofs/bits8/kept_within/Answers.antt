use Rattle.std.proofs.Common.{◌∙◌, w8}
use Rattle.lane_filter.proofs.Choosing.{kept_are, map_same}
use Rattle.lane_filter.proofs.bits8.kept_within.Goals as goal

pub returns : goal.returns
returns c = map_same _ ∙ kept_are w8 32 c.args.span c.args.offsets c.requires
