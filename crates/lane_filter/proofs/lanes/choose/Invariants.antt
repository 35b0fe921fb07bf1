use Rattle.std.proofs.Common.{◌≡◌, take}
use Rattle.lane_filter.specs.Lanes.{with_steps}
use Rattle.lane_filter.proofs.lanes.choose.Given as goal

abbrev pub invariant-loop-bytes : goal.invariant-loop-bytes
invariant-loop-bytes g l =
    g.L.Lanes.taken l.lanes ≡ with_steps g.L.Lanes.width (take l.bytes-index l.steps) (g.L.Lanes.taken l.initial.lanes)
