use Rattle.std.proofs.Common.{◌∙◌, w16}
use Rattle.lane_filter.proofs.Choosing.{map_same, ones_are}
use Rattle.lane_filter.proofs.bits16.ones_within.Goals as goal

pub returns : goal.returns
returns c = map_same _ ∙ ones_are w16 16 c.args.span c.args.offsets c.requires
