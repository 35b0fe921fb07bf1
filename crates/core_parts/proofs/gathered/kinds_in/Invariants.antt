use Rattle.std.proofs.Common.{◌≡◌, take}
use Rattle.core_parts.specs.Kinds.{kinds_of}
use Rattle.core_parts.proofs.gathered.kinds_in.Given as goal

abbrev pub invariant-loop-at : goal.invariant-loop-at
invariant-loop-at l = l.kinds.items ≡ take l.at (kinds_of l.columns.columns)
