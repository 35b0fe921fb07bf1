use Rattle.std.proofs.Common.{◌∙◌, w16}
use Rattle.lane_filter.proofs.Choosing.{kept_are, map_same}
use Rattle.lane_filter.proofs.bits16.kept_within.Goals as goal

pub returns : goal.returns
returns c = map_same _ ∙ kept_are w16 16 c.args.span c.args.offsets c.requires
