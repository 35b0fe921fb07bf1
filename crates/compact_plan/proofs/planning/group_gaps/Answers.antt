use Rattle.std.proofs.Common.{sym, subst}
use Rattle.compact_plan.specs.Looks.{HasPlaces}
use Rattle.compact_plan.proofs.planning.group_gaps.Goals as goal

pub add_gaps-requires : goal.add_gaps-requires
add_gaps-requires c = subst HasPlaces (sym c.seen-item.is) (c.requires c.loop-seen.seen-index c.seen-item.result c.loop-seen-test.true)
