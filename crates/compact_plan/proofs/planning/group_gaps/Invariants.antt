use Rattle.std.proofs.Common.{◌≡◌, take}
use Rattle.std.specs.Prelude.{filter}
use Rattle.std.specs.List.{flat_map}
use Rattle.event_spec.specs.Plans.{gap_places, is_in_group}
use Rattle.compact_plan.proofs.planning.group_gaps.Given as goal

abbrev pub invariant-loop-seen : goal.invariant-loop-seen
invariant-loop-seen l = l.gaps.items ≡ flat_map gap_places (filter is_in_group (take l.seen-index l.looks))
