use Rattle.std.proofs.Common.{◌≡◌, ◌++◌, map, take}
use Rattle.block_layout.specs.Place.{place_of}
use Rattle.compact_plan.proofs.looks.push_gaps.Given as goal

abbrev pub invariant-loop-at : goal.invariant-loop-at
invariant-loop-at l = l.gaps.items ≡ l.initial.gaps.items ++ map (place_of l.block) (take l.at l.look.gaps)
