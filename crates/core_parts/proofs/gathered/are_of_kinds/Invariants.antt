use Rattle.std.proofs.Common.{◌≡◌, take}
use Rattle.core_parts.specs.Kinds.{kinds_of}
use Rattle.core_parts.proofs.gathered.are_of_kinds.Given as goal

abbrev pub invariant-loop-at : goal.invariant-loop-at
invariant-loop-at l = take l.at l.kinds ≡ take l.at (kinds_of l.columns.columns)
