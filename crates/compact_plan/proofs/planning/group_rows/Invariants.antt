use Rattle.std.proofs.Common.{◌≡◌, take}
use Rattle.std.specs.Prelude.{filter}
use Rattle.std.specs.List.{flat_map}
use Rattle.event_spec.specs.Plans.{is_in_group, row_places}
use Rattle.compact_plan.proofs.planning.group_rows.Given as goal

abbrev pub invariant-loop-seen : goal.invariant-loop-seen
invariant-loop-seen l = l.rows.items ≡ flat_map row_places (filter is_in_group (take l.seen-index l.looks))
