use Rattle.std.proofs.Common.{◌≡◌, take}
use Rattle.event_spec.specs.Replay.{opening_desk}
use Rattle.core_parts.proofs.first_parts.desk_behind.Given as goal

abbrev pub invariant-loop-writes : goal.invariant-loop-writes
invariant-loop-writes l = l.desk ≡ opening_desk (take l.writes-index l.writes-items) l.shape.passes
